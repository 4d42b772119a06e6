use Rattle.std.proofs.Common.{◌≡◌}
use Rattle.label_energies.specs.Energies.{labelling}
use Rattle.move_energy.specs.BySite.{IsListing}
use Rattle.move_energy.specs.Choices.{open_at}
use Rattle.site_bounds.specs.Listed.{changes}
use Rattle.site_bounds.proofs.lists.Lists.list_part.Given as goal

abbrev pub invariant-loop-site : goal.invariant-loop-site
invariant-loop-site l = record {
  opened : IsListing (open_at l.choices) l.site l.self.opened.items;
  changing : IsListing (changes l.change (labelling l.at) l.choices) l.site l.self.changing.items;
  count : l.self.count ≡ l.fn.self.count;
  listed : l.self.listed ≡ l.fn.self.listed;
}
