use Rattle.std.proofs.Common.{◌≡◌}
use Rattle.move_energy.proofs.Opened.{AreNumberedListed}
use Rattle.move_energy.proofs.variables.Variables.number_listed.Given as goal

abbrev pub invariant-loop-index : goal.invariant-loop-index
invariant-loop-index l = record {
  kept : l.self.choices.items ≡ l.fn.self.choices.items;
  numbered : AreNumberedListed l.fn.self.choices.items l.self.of_sites.items l.index;
}
