use Rattle.form_costs.proofs.Adding.{AreFirstPairs}
use Rattle.form_costs.proofs.pairs.pairs_of_form.Given as goal

abbrev pub invariant-loop-index : goal.invariant-loop-index
invariant-loop-index l = AreFirstPairs l.form l.index l.pairs
