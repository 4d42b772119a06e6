use Rattle.std.proofs.Common.{◌≡◌, length, map, vec_capacity}
use Rattle.block_rings.specs.Links.{links_of}
use Rattle.block_rings.specs.Pairing.{IsReadyToPair, Pairs}
use Rattle.block_rings.proofs.ring_ends.pair_all.Given as goal

abbrev pub invariant-loop-b : goal.invariant-loop-b
invariant-loop-b l = record {
  len : length l.lists.items ≡ length l.initial.lists.items;
  ready : IsReadyToPair (length l.initial.lists.items) l.b (map (λ list. list.items) l.lists.items) (length l.pairs.items) (vec_capacity l.pairs);
  paired : Pairs (length l.initial.lists.items) (map (λ list. list.items) l.initial.lists.items) (links_of l.initial.pairs.items) (map (λ list. list.items) l.lists.items) (links_of l.pairs.items);
}
