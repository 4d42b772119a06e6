use Rattle.move_energy.proofs.Opened.{AreAssignedListed}
use Rattle.near_changes.proofs.opening.assign.Given as goal

abbrev pub invariant-loop-index : goal.invariant-loop-index
invariant-loop-index l = AreAssignedListed l.fn.choices.items l.bits l.choices.items l.index
