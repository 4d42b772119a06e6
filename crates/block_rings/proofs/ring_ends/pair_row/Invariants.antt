use Rattle.std.proofs.Common.{◌≡◌, ◌+◌, [], length, map, get_or, vec_capacity}
use Rattle.block_rings.specs.Links.{links_of}
use Rattle.block_rings.specs.Pairing.{IsReadyToPair, Pairs}
use Rattle.block_rings.proofs.ring_ends.pair_row.Given as goal

abbrev pub invariant-loop : goal.invariant-loop
invariant-loop l = record {
  len : length l.lists.items ≡ length l.initial.lists.items;
  ready : IsReadyToPair (length l.initial.lists.items) (l.b + 1) (map (λ list. list.items) l.lists.items) (length l.pairs.items) (vec_capacity l.pairs);
  row : length (get_or (map (λ list. list.items) l.lists.items) l.b []) + l.counter ≡ length (get_or (map (λ list. list.items) l.initial.lists.items) l.b []);
  paired : Pairs (length l.initial.lists.items) (map (λ list. list.items) l.initial.lists.items) (links_of l.initial.pairs.items) (map (λ list. list.items) l.lists.items) (links_of l.pairs.items);
}
