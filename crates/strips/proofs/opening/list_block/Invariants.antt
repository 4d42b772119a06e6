use Rattle.std.proofs.Common.{◌≡◌, ◌≤◌, ◌+◌, ◌++◌, length, take}
use Rattle.move_energy.specs.Choices.{AreOpenSites}
use Rattle.strip_nets.specs.Views.{strip_view}
use Rattle.strips.proofs.opening.list_block.Given as goal

abbrev pub invariant-loop-place : goal.invariant-loop-place
invariant-loop-place l = record {
  long : length l.found ≡ 16;
  few : l.count ≤ l.place;
  listed : AreOpenSites (strip_view l.known l.first (l.from + l.place)) (l.opened.items ++ take l.count l.found);
}
