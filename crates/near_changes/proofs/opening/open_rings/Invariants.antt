use Rattle.std.proofs.Common.{◌<◌, All}
use Rattle.near_changes.specs.Working.{OpensWithin}
use Rattle.near_changes.proofs.opening.open_rings.Given as goal

abbrev pub invariant-loop : goal.invariant-loop
invariant-loop l = record {
  opened : OpensWithin l.window l.fn.choices.items l.choices.items;
  inside : All (λ p. p < l.pairs.sites) l.ring.items;
}
