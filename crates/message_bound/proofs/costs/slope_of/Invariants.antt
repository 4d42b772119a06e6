use Rattle.std.proofs.Common.{ℕ, ◌≡◌, ◌+◌, ◌*◌, ◌<◌, slice_index}
use Rattle.std.specs.Prelude.{min}
use Rattle.label_field.specs.Grids.{distance}
use Rattle.message_bound.proofs.costs.slope_of.Given as goal

abbrev pub invariant-loop-first : goal.invariant-loop-first
invariant-loop-first l = (a b : ℕ) → a < l.first → b < l.labels
    → slice_index l.costs (a * l.labels + b) ≡ min (l.slope.step * distance a b) l.slope.most
