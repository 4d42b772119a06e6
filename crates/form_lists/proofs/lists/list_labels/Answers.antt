use Rattle.std.proofs.Common.{inl, inr, arith}
use Rattle.std.proofs.lemmas.Bool.{cases_lt}
use Rattle.move_energy.proofs.Values.{label_below}
use Rattle.form_lists.proofs.Taking.{some_label}
use Rattle.form_lists.proofs.lists.list_labels.Goals as goal

pub returns-clause-below : goal.returns-clause-below
returns-clause-below c = λ old. elim (cases_lt old c.args.labels) [
  | inl inside ↦ label_below c.args.labels c.args.change old _ c.args.bit c.requires.change inside (c.loop-label.invariant.each old (omega (arith, inside, c.loop-label-test.false)))
  | inr past ↦ (let none = c.loop-label.invariant.rest old (omega (arith, past, c.loop-label.auto.label-end)) in let some = some_label c.args.labels c.args.change c.requires.change in omega (arith, none, some))
]
