-- Rings that were looked at, one pair after another.
use Rattle.std.proofs.Common.{◌≡◌, ℕ, ◌+◌, ◌<◌, List, ◌∷◌, length, map, set, get_or, drop, sym, ◌∙◌, ap, subst, inl, inr, arith}
use Rattle.std.proofs.lemmas.Bool.{cases_eq}
use Rattle.std.proofs.lemmas.List.{map-set, set-get_or, get_or-map, length-map, drop_more, drop-set-lt, drop-drop}
use Rattle.block_rings.specs.declared.pair.PortPair.{PortPair}
use Rattle.block_rings.specs.Links.{Link, link, IsLinkSeen}

-- p is the pair at the place, and q what it became
pub links_kept : (pairs : List PortPair) (k : ℕ) (p q : PortPair) → k < length pairs → p ≡ get_or pairs k p → link q ≡ link p
    → map (λ x. link x) (set pairs k q) ≡ map (λ x. link x) pairs
links_kept pairs k p q low is same =
    let at : link q ≡ get_or (map (λ (x : PortPair). link x) pairs) k (link p) =
    same ∙ (ap (λ (x : PortPair). link x) is ∙ sym (get_or-map (λ (x : PortPair). link x) pairs k p (link p) low)) in
    map-set (λ (x : PortPair). link x) pairs k q
    ∙ (ap (λ (l : Link). set (map (λ (x : PortPair). link x) pairs) k l) at ∙ set-get_or (map (λ (x : PortPair). link x) pairs) k (link p))

pub seen_more : (first : List Link) (pairs : List PortPair) (k : ℕ) (p : PortPair) → map (λ x. link x) pairs ≡ first → k < length pairs → p ≡ get_or pairs k p → IsLinkSeen (link p)
    → ((i : ℕ) (d : Link) → i < k → IsLinkSeen (get_or first i d)) → (i : ℕ) (d : Link) → i < k + 1 → IsLinkSeen (get_or first i d)
seen_more first pairs k p same low is seen before i d below = elim (cases_eq i k) [
  | inl here ↦
      let at : get_or first i d ≡ link p =
      ap (λ (j : ℕ). get_or first j d) here
      ∙ (ap (λ (ls : List Link). get_or ls k d) (sym same)
      ∙ (get_or-map (λ (x : PortPair). link x) pairs k p d low ∙ sym (ap (λ (x : PortPair). link x) is))) in
      subst IsLinkSeen (sym at) seen
  | inr off ↦ before i d (omega (arith, below, off))
]

-- ---- the links from a place on

-- p is the pair at the place
pub links_from : (pairs : List PortPair) (k : ℕ) (p : PortPair) → k < length pairs → p ≡ get_or pairs k p
    → drop k (map (λ x. link x) pairs) ≡ link p ∷ drop (k + 1) (map (λ x. link x) pairs)
links_from pairs k p low is =
    let links : List Link = map (λ (x : PortPair). link x) pairs in
    let at : get_or links k (link p) ≡ link p = get_or-map (λ (x : PortPair). link x) pairs k p (link p) low ∙ sym (ap (λ (x : PortPair). link x) is) in
    drop_more links k (link p) (omega (arith, low, length-map pairs (λ (x : PortPair). link x))) ∙ ap (λ (l : Link). l ∷ drop (k + 1) links) at

-- those behind it stay
pub links_behind : (pairs : List PortPair) (k : ℕ) (q : PortPair) → drop (k + 1) (map (λ x. link x) (set pairs k q)) ≡ drop (k + 1) (map (λ x. link x) pairs)
links_behind pairs k q =
    ap (λ (ls : List Link). drop (k + 1) ls) (map-set (λ (x : PortPair). link x) pairs k q)
    ∙ drop-set-lt (k + 1) (map (λ (x : PortPair). link x) pairs) k (link q) (omega arith)

pub same_behind : (a b : List Link) (k : ℕ) → drop k a ≡ drop k b → drop (k + 1) a ≡ drop (k + 1) b
same_behind a b k same = sym (drop-drop 1 k a) ∙ (ap (λ (ls : List Link). drop 1 ls) same ∙ drop-drop 1 k b)
