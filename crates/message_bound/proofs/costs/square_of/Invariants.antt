use Rattle.std.proofs.Common.{ℕ, ◌≡◌, ◌+◌, ◌*◌, ◌<◌, slice_index}
use Rattle.std.specs.Prelude.{min}
use Rattle.message_bound.specs.Costs.{square_apart}
use Rattle.message_bound.proofs.costs.square_of.Given as goal

abbrev pub invariant-loop-first : goal.invariant-loop-first
invariant-loop-first l = (a b : ℕ) → a < l.first → b < l.labels
    → slice_index l.costs (a * l.labels + b) ≡ min (l.slope.step * square_apart a b) l.slope.most
