use Rattle.std.proofs.Common.{◌≡◌, ◌≤◌}
use Rattle.move_energy.specs.Choices.{open_rank}
use Rattle.move_energy.proofs.Numbers.{AreAssignedBelow}
use Rattle.move_energy.proofs.variables.Variables.assign.Given as goal

abbrev pub invariant-loop-site : goal.invariant-loop-site
invariant-loop-site l = record {
  counted : l.next ≡ open_rank l.fn.self.choices.items l.site;
  few : l.next ≤ l.site;
  assigned : AreAssignedBelow l.fn.self.choices.items l.bits l.self.choices.items l.site;
}
