use Rattle.std.proofs.Common.{◌≡◌, ℕ, ◌<◌, map, get_or}
use Rattle.block_rings.specs.Links.{Link, link, IsLinkSeen}
use Rattle.block_rings.proofs.rings.see_all.Given as goal

abbrev pub invariant-loop-k : goal.invariant-loop-k
invariant-loop-k l = record {
  same : map (λ p. link p) l.pairs.items ≡ map (λ p. link p) l.initial.pairs.items;
  seen : (i : ℕ) (d : Link) → i < l.k → IsLinkSeen (get_or (map (λ p. link p) l.initial.pairs.items) i d);
}
