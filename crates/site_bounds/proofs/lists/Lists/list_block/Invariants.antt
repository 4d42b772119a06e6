use Rattle.std.proofs.Common.{◌≡◌, ◌≤◌, ◌+◌, ◌++◌, length, take}
use Rattle.label_energies.specs.Energies.{labelling}
use Rattle.move_energy.specs.BySite.{IsListing}
use Rattle.move_energy.specs.Choices.{open_at}
use Rattle.site_bounds.specs.Listed.{changes}
use Rattle.site_bounds.proofs.lists.Lists.list_block.Given as goal

abbrev pub invariant-loop-place : goal.invariant-loop-place
invariant-loop-place l = record {
  long : length l.opened ≡ 32;
  wide : length l.changing ≡ 32;
  few : l.open ≤ l.place;
  less : l.moved ≤ l.place;
  opened : IsListing (open_at l.choices) (l.from + l.place) (l.self.opened.items ++ take l.open l.opened);
  changing : IsListing (changes l.change (labelling l.at) l.choices) (l.from + l.place) (l.self.changing.items ++ take l.moved l.changing);
}
