use Rattle.std.proofs.Common.{◌≡◌, take}
use Rattle.std.specs.List.{filter}
use Rattle.label_energies.specs.Energies.{labelling}
use Rattle.move_energy.specs.Choices.{open_at}
use Rattle.site_bounds.specs.Listed.{changes}
use Rattle.site_bounds.proofs.lists.Lists.list_among.Given as goal

abbrev pub invariant-loop-place : goal.invariant-loop-place
invariant-loop-place l = record {
  opened : l.self.opened.items ≡ filter (open_at l.choices) (take l.place l.sites);
  changing : l.self.changing.items ≡ filter (changes l.change (labelling l.at) l.choices) (take l.place l.sites);
  count : l.self.count ≡ l.fn.self.count;
  listed : l.self.listed ≡ l.fn.self.listed;
}
