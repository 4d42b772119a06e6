use Rattle.compile_cut.proofs.TermLemmas.{HasAdded}
use Rattle.compile_cut.proofs.quadratic.quadratic_of.Given as goal

abbrev pub invariant-loop-index : goal.invariant-loop-index
invariant-loop-index l = HasAdded l.energy l.index l.form
