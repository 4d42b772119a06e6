use Rattle.std.proofs.Common.{ℕ, sym, subst}
use Rattle.std.proofs.lemmas.Result.{on_ok_weaker}
use Rattle.sums.specs.Sums.{count_if}
use Rattle.label_cost_terms.specs.LabelCosts.{uses, AddsHidden}
use Rattle.label_cost_terms.proofs.Costing.{adds_fixed, none_paid}
use Rattle.label_cost_terms.proofs.label_costs.add_label.Goals as goal

pub returns-then-cost-eq0-clause-adds : goal.returns-then-cost-eq0-clause-adds
returns-then-cost-eq0-clause-adds c =
    adds_fixed c.args.form.now (λ x. count_if (uses c.args.expansion.now.alpha c.args.expansion.now.at.now c.args.expansion.now.variables.now.choices.items c.args.label x) c.args.cost) 0
    (λ x. none_paid (uses c.args.expansion.now.alpha c.args.expansion.now.at.now c.args.expansion.now.variables.now.choices.items c.args.label x) c.args.cost c.if-cost-eq0.true)

pub returns-then-label-expansion-clause-adds : goal.returns-then-label-expansion-clause-adds
returns-then-label-expansion-clause-adds c =
    on_ok_weaker c.add_own.result (λ adds.
    let P : ℕ → Type 0 = λ label. AddsHidden c.args.form.now c.add_own.new.form (λ x. count_if (uses c.args.expansion.now.alpha c.args.expansion.now.at.now c.args.expansion.now.variables.now.choices.items label x) c.args.cost) in
    subst P (sym c.if-label-expansion.true) adds) c.add_own.ensures.adds
