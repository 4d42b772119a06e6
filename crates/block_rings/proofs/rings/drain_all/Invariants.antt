use Rattle.std.proofs.Common.{◌≡◌, ℕ, ◌<◌, length, map, drop, get_or}
use Rattle.block_rings.specs.declared.pair.PortPair.{PortPair}
use Rattle.block_rings.specs.Links.{link}
use Rattle.block_rings.specs.Kept.{IsDrained}
use Rattle.block_rings.specs.Draining.{AreDraining}
use Rattle.block_rings.proofs.rings.drain_all.Given as goal

abbrev pub invariant-loop-k : goal.invariant-loop-k
invariant-loop-k l = record {
  rest : drop l.k (map (λ p. link p) l.pairs.items) ≡ drop l.k (map (λ p. link p) l.initial.pairs.items);
  long : length l.pairs.items ≡ length l.initial.pairs.items;
  draining : AreDraining (length l.initial.ways.messages) (map (λ p. link p) l.initial.pairs.items) (drop l.k (map (λ p. link p) l.pairs.items)) l.ways.messages;
  rooms : l.ways.rooms ≡ l.initial.ways.rooms;
  drained : (i : ℕ) (d : PortPair) → i < l.k → IsDrained (get_or l.pairs.items i d);
}
