use Rattle.std.proofs.Common.{◌≡◌, ◌≤◌, ◌-◌, List, length}
use Rattle.move_energy.specs.declared.choice.Choice.{Choice}
use Rattle.move_energy.specs.Choices.{AreOpenSites}
use Rattle.strip_nets.specs.Views.{strip_view}
use Rattle.strip_nets.proofs.Numbering.{AreFirstNumbered}
use Rattle.strip_nets.proofs.building.number_sites.Given as goal

abbrev pub invariant-loop-index : goal.invariant-loop-index
invariant-loop-index l = record {
  room : l.sites.to - l.sites.from ≤ length l.numbers.items;
  kept : l.sites.to - l.sites.from ≤ length l.fn.numbers.items → length l.numbers.items ≡ length l.fn.numbers.items;
  numbered : (known : List Choice) → AreOpenSites (strip_view known l.sites.from l.sites.to) l.sites.opened.now
      → AreFirstNumbered known l.sites.from l.sites.to l.numbers.items l.index;
}
