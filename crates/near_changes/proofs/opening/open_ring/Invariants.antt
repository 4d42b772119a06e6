use Rattle.std.proofs.Common.{◌<◌, ◌≤◌, All, length}
use Rattle.near_changes.specs.Working.{OpensWithin}
use Rattle.near_changes.proofs.opening.open_ring.Given as goal

abbrev pub invariant-loop-index : goal.invariant-loop-index
invariant-loop-index l = record {
  opened : OpensWithin l.window l.fn.choices.items l.choices.items;
  inside : All (λ p. p < l.pairs.sites) l.ring.items;
  more : length l.fn.ring.items ≤ length l.ring.items;
}
