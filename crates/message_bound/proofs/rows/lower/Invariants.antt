use Rattle.message_bound.specs.Rows.{AreRaised}
use Rattle.message_bound.proofs.rows.lower.Given as goal

abbrev pub invariant-loop-label : goal.invariant-loop-label
invariant-loop-label l = AreRaised l.from l.label l.by l.rows l.fn.rows
