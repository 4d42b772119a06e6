use Rattle.std.proofs.Common.{◌≡◌, ◌≤◌, vec_capacity}
use Rattle.move_energy.specs.Choices.{open_rank}
use Rattle.move_energy.proofs.Numbers.{IsNumberedBelow}
use Rattle.move_energy.proofs.variables.Variables.number.Given as goal

abbrev pub invariant-loop-site : goal.invariant-loop-site
invariant-loop-site l = record {
  kept : l.self.choices.items ≡ l.fn.self.choices.items;
  room : l.sites ≤ vec_capacity l.self.of_sites;
  counted : l.count ≡ open_rank l.self.choices.items l.site;
  few : l.count ≤ l.site;
  numbered : IsNumberedBelow l.self.choices.items l.self.of_sites.items l.site;
}
