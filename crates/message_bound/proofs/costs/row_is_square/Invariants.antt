use Rattle.std.proofs.Common.{ℕ, ◌≡◌, ◌*◌, ◌<◌, slice_index}
use Rattle.std.specs.Prelude.{min}
use Rattle.message_bound.specs.Costs.{square_apart}
use Rattle.message_bound.proofs.costs.row_is_square.Given as goal

abbrev pub invariant-loop-second : goal.invariant-loop-second
invariant-loop-second l = (b : ℕ) → b < l.second
    → slice_index l.row b ≡ min (l.slope.step * square_apart l.first b) l.slope.most
