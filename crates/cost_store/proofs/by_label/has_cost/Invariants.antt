use Rattle.std.proofs.Common.{◌≡◌, ◌<◌, ℕ}
use Rattle.cost_store.specs.LabelCosts.{cost_at}
use Rattle.cost_store.proofs.by_label.has_cost.Given as goal

abbrev pub invariant-loop-label : goal.invariant-loop-label
invariant-loop-label l = (k : ℕ) → k < l.label → cost_at l.costs k ≡ 0
