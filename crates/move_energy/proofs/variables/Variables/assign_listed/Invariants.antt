use Rattle.move_energy.proofs.Opened.{AreAssignedListed}
use Rattle.move_energy.proofs.variables.Variables.assign_listed.Given as goal

abbrev pub invariant-loop-index : goal.invariant-loop-index
invariant-loop-index l = record {
  assigned : AreAssignedListed l.fn.self.choices.items l.bits l.self.choices.items l.index;
}
