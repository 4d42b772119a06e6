use Rattle.near_changes.specs.Working.{OpensWithin}
use Rattle.near_changes.proofs.Opens.{AreFirstLookedAt}
use Rattle.near_changes.proofs.opening.open_all.Given as goal

abbrev pub invariant-loop-index : goal.invariant-loop-index
invariant-loop-index l = record {
  opened : OpensWithin l.window l.fn.choices.items l.choices.items;
  looked : AreFirstLookedAt l.window l.sites l.index l.choices.items;
}
