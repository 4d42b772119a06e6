use Rattle.std.proofs.Common.{◌≡◌}
use Rattle.sums.specs.Sums.{sum_below}
use Rattle.block_split.specs.Split.{whole_of}
use Rattle.block_state.specs.Pieces.{given_by}
use Rattle.block_state.proofs.pieces.Pieces.sink_total.Given as goal

abbrev pub invariant-each : goal.invariant-each
invariant-each l = l.given ≡ sum_below l.block (given_by (whole_of l.self.net l.self.parts))
