use Rattle.std.proofs.Common.{◌≡◌, ◌+◌, slice_index}
use Rattle.sums.specs.Sums.{sum_below}
use Rattle.block_split.specs.Split.{whole_of}
use Rattle.block_state.specs.Pieces.{given_at}
use Rattle.block_state.proofs.pieces.given_in.Given as goal

abbrev pub invariant-places : goal.invariant-places
invariant-places l =
    l.given ≡ sum_below l.place (λ i. given_at (whole_of l.net l.parts) (slice_index (whole_of l.net l.parts).firsts l.block + i))
