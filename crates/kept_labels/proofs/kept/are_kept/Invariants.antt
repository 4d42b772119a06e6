use Rattle.kept_labels.proofs.Holding.{AreKeptBelow}
use Rattle.kept_labels.proofs.kept.are_kept.Given as goal

abbrev pub invariant-loop-label : goal.invariant-loop-label
invariant-loop-label l = AreKeptBelow l.form l.alpha l.costs l.label
