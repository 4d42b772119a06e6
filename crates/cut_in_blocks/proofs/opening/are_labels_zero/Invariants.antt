use Rattle.std.proofs.Common.{ℕ, ◌<◌}
use Rattle.block_net.specs.Whole.{block_at}
use Rattle.block_split.specs.Split.{whole_of}
use Rattle.cut_in_blocks.specs.Opening.{IsFlat}
use Rattle.cut_in_blocks.proofs.opening.are_labels_zero.Given as goal

abbrev pub invariant-each : goal.invariant-each
invariant-each l = (b : ℕ) → b < l.b → IsFlat (block_at (whole_of l.state.net l.parts) b)
