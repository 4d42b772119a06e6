use Rattle.std.proofs.Common.{◌*◌}
use Rattle.label_cost_terms.specs.Limits.{label_terms}
use Rattle.label_cost_terms.specs.LabelCosts.{costs_below, AddsHidden, GrowsBy}
use Rattle.label_cost_terms.proofs.label_costs.add_label_costs.Given as goal

abbrev pub invariant-loop-label : goal.invariant-loop-label
invariant-loop-label l = record {
  wider : GrowsBy l.label (label_terms * l.label) l.initial.form l.form;
  adds : AddsHidden l.initial.form l.form (costs_below l.label l.alpha l.at l.variables.choices.items l.costs);
}
