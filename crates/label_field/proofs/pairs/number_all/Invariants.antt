use Rattle.label_field.proofs.Numbers.{AreNumberedBelow}
use Rattle.label_field.proofs.pairs.number_all.Given as goal

abbrev pub invariant-loop-index : goal.invariant-loop-index
invariant-loop-index l = AreNumberedBelow l.fn.list.items l.list.items l.index
