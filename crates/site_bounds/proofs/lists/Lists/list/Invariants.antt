use Rattle.std.proofs.Common.{◌≡◌, ◌-◌, ◌≤◌, length}
use Rattle.label_energies.specs.Energies.{labelling}
use Rattle.move_energy.specs.BySite.{IsListing}
use Rattle.move_energy.specs.Choices.{open_at}
use Rattle.site_bounds.specs.Listed.{changes}
use Rattle.site_bounds.proofs.lists.Lists.list.Given as goal

abbrev pub invariant-loop-from : goal.invariant-loop-from
invariant-loop-from l = record {
  within : l.from ≤ length l.at;
  opened : IsListing (open_at l.choices) l.from l.self.opened.items;
  changing : IsListing (changes l.change (labelling l.at) l.choices) l.from l.self.changing.items;
  count : l.self.count ≡ l.fn.self.count;
  listed : l.self.listed ≡ l.fn.self.listed;
}

abbrev pub decreases-loop-from : goal.decreases-loop-from
decreases-loop-from l = length l.at - l.from
