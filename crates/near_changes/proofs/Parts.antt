-- Sets of sites that stand by themselves in an expansion.
use Rattle.std.proofs.Common.{◌≡◌, ◌≤ℤ◌, ◌≢◌, ◌⊎◌, ℕ, zero, suc, ◌+◌, ◌*◌, ◌<◌, Bool, true, false, cond, not, List, [], ◌∷◌, get_or, pos, refl, sym, ap, ◌∙◌, inl, inr, arith, ◌&&◌}
use Rattle.std.specs.List.{All, sum_by}
use Rattle.std.proofs.lemmas.Int.{ints}
use Rattle.std.proofs.lemmas.Bool.{cases_eq, cases_Bool}
use Rattle.std.proofs.lemmas.List.Sums.{sum_by-cons}
use Rattle.std.proofs.lemmas.List.Elements.{All-head, All-tail}
use Rattle.sums.specs.Sums.{sum_below}
use Rattle.label_field.specs.declared.pair.Pair.{Pair}
use Rattle.label_field.specs.PairLists.{IsPair}
use Rattle.label_energies.specs.declared.change.Move.TheVariants.{Expand}
use Rattle.label_energies.specs.Energies.{Instance, IsInstance, plain_energy, pair_cost}
use Rattle.label_energies.specs.Moves.{labelling_made}
use Rattle.label_energies.proofs.Energy.{plain-same}
use Rattle.move_energy.specs.Assignments.{set_bit}
use Rattle.site_bounds.specs.Decisions.{IsSmallestLeast}
use Rattle.move_energy.specs.MoveValues.{move_value}
use Rattle.move_energy.proofs.Assignments.{set_at, set_other}
use Rattle.persistency.specs.Fixing.{OnesLieWithin}
use Rattle.near_changes.specs.Fresh.{WasExpanded, IsFreshAcross, AreFresh, HoldsNoFresh, HoldsFresh, IsApart, IsPartOf}

-- ---- four labellings of which two and two are equal, one way or the other, at each site and at
-- each pair

abbrev Paired : (ℕ → ℕ) → (ℕ → ℕ) → (ℕ → ℕ) → (ℕ → ℕ) → ℕ → ℕ → Type 0
Paired f g h k u v =
    ((f u ≡ h u) × (f v ≡ h v) × (g u ≡ k u) × (g v ≡ k v))
    ⊎ ((f u ≡ g u) × (f v ≡ g v) × (h u ≡ k u) × (h v ≡ k v))

swap_sum : (a b c d : ℕ) → (a ≡ c) → (b ≡ d) → a + d ≡ b + c
swap_sum a b c d h k = omega (arith, h, k)

keep_sum : (a b c d : ℕ) → (a ≡ b) → (c ≡ d) → a + d ≡ b + c
keep_sum a b c d h k = omega (arith, h, k)

site_even : (m : Instance) (f g h k : ℕ → ℕ) (p : ℕ) → Paired f g h k p p
    → m.data_cost p (f p) + m.data_cost p (k p) ≡ m.data_cost p (g p) + m.data_cost p (h p)
site_even m f g h k p (inl e) = swap_sum _ _ _ _ (ap (m.data_cost p) e.0) (ap (m.data_cost p) e.2)
site_even m f g h k p (inr e) = keep_sum _ _ _ _ (ap (m.data_cost p) e.0) (ap (m.data_cost p) e.2)

same_cost : (m : Instance) (f g : ℕ → ℕ) (pair : Pair) → f pair.first ≡ g pair.first → f pair.second ≡ g pair.second
    → pair_cost m f pair ≡ pair_cost m g pair
same_cost m f g pair h k =
    ap (λ l. m.smooth_cost pair.weight l (f pair.second)) h ∙ ap (λ l. m.smooth_cost pair.weight (g pair.first) l) k

pair_even : (m : Instance) (f g h k : ℕ → ℕ) (pair : Pair) → Paired f g h k pair.first pair.second
    → pair_cost m f pair + pair_cost m k pair ≡ pair_cost m g pair + pair_cost m h pair
pair_even m f g h k pair (inl e) = swap_sum _ _ _ _ (same_cost m f h pair e.0 e.1) (same_cost m g k pair e.2 e.3)
pair_even m f g h k pair (inr e) = keep_sum _ _ _ _ (same_cost m f g pair e.0 e.1) (same_cost m h k pair e.2 e.3)

sums_even : (n : ℕ) (A B C D : ℕ → ℕ) → ((i : ℕ) → i < n → A i + D i ≡ B i + C i)
    → sum_below n A + sum_below n D ≡ sum_below n B + sum_below n C
sums_even zero A B C D each = refl
sums_even (suc n) A B C D each = omega (arith, sums_even n A B C D (λ i l. each i (omega (arith, l))), each n (omega arith))

lists_even : (Q : Pair → Type 0) (A B C D : Pair → ℕ) (xs : List Pair) → All Q xs → ((x : Pair) → Q x → A x + D x ≡ B x + C x)
    → sum_by A xs + sum_by D xs ≡ sum_by B xs + sum_by C xs
lists_even Q A B C D [] all each = refl
lists_even Q A B C D (x ∷ xs) all each =
    omega (
      arith,
      sum_by-cons A x xs,
      sum_by-cons B x xs,
      sum_by-cons C x xs,
      sum_by-cons D x xs,
      each x (All-head Q x xs all),
      lists_even Q A B C D xs (All-tail Q x xs all) each,
    )

pub plain_even : (m : Instance) (f g h k : ℕ → ℕ) → ((p : ℕ) → p < m.sites → Paired f g h k p p)
    → All (λ pair. Paired f g h k pair.first pair.second) m.pairs → plain_energy m f + plain_energy m k ≡ plain_energy m g + plain_energy m h
plain_even m f g h k at_sites at_pairs =
    let sites = sums_even m.sites (λ p. m.data_cost p (f p)) (λ p. m.data_cost p (g p)) (λ p. m.data_cost p (h p)) (λ p. m.data_cost p (k p))
    (λ p l. site_even m f g h k p (at_sites p l)) in
    let pairs = lists_even (λ pair. Paired f g h k pair.first pair.second) (pair_cost m f) (pair_cost m g) (pair_cost m h) (pair_cost m k) m.pairs at_pairs
    (λ pair is. pair_even m f g h k pair is) in
    omega (arith, sites, pairs)

-- ---- the least assignment with the fewest ones

-- of a site that has the label already nothing depends
indifferent : (a old : ℕ) (x y : Bool) → old ≡ a → cond x a old ≡ cond y a old
indifferent a old true true h = refl
indifferent a old false false h = refl
indifferent a old true false h = sym h
indifferent a old false true h = h

label_same : (a : ℕ) (f : ℕ → ℕ) (x y : ℕ → Bool) (p : ℕ) → x p ≡ y p → labelling_made (Expand a) f x p ≡ labelling_made (Expand a) f y p
label_same a f x y p h = ap (λ b. cond b a (f p)) h

-- so its variable is 0
pub ones_can_take : (m : Instance) (a : ℕ) (f : ℕ → ℕ) (s : ℕ → Bool) (p : ℕ) → IsInstance m → IsSmallestLeast m.sites (move_value m (Expand a) f) s → p < m.sites
    → s p ≡ true → f p ≢ a
ones_can_take m a f s p pairs best l one has =
    let off = set_bit s p false in
    let same = plain-same m (labelling_made (Expand a) f off) (labelling_made (Expand a) f s) pairs (λ q below. elim (cases_eq q p) [
      | inl here ↦ indifferent a (f q) (off q) (s q) (ap f here ∙ has)
      | inr other ↦ label_same a f off s q (set_other s p q false other)
    ]) in
    let still = best.smallest off (ap pos same) p l one in
    let gone = set_at s p p false refl in
    (let e = sym gone ∙ still in cc (e))

-- what is left of the ones
abbrev pub without : (ℕ → Bool) → (ℕ → Bool) → ℕ → Bool
without s part k = s k && not (part k)

kept_off : (x y : Bool) → y ≡ false → (x && not y) ≡ x
kept_off true y h = ap not h
kept_off false y h = refl

lost_in : (x y : Bool) → y ≡ true → (x && not y) ≡ false
lost_in true y h = ap not h
lost_in false y h = refl

-- ---- a part with no fresh site

-- what is known of a site of the part, or of a site beside it
abbrev Inside : ℕ → (ℕ → ℕ) → (ℕ → ℕ) → (ℕ → Bool) → (ℕ → Bool) → ℕ → Type 0
Inside a old new s part p = (s p ≡ true) × (part p ≡ true) × (new p ≡ old p)

abbrev Beside : ℕ → (ℕ → ℕ) → (ℕ → ℕ) → (ℕ → Bool) → (ℕ → Bool) → ℕ → Type 0
Beside a old new s part p = (part p ≡ false) × (new p ≡ old p) × ((s p ≡ false) ⊎ (new p ≡ a))

abbrev Level : ℕ → (ℕ → ℕ) → (ℕ → ℕ) → (ℕ → Bool) → (ℕ → Bool) → ℕ → Type 0
Level a old new s part p =
    (labelling_made (Expand a) new s p ≡ labelling_made (Expand a) old part p)
    × (labelling_made (Expand a) new (without s part) p ≡ labelling_made (Expand a) old (λ q. false) p)

inside_level : (a : ℕ) (old new : ℕ → ℕ) (s part : ℕ → Bool) (p : ℕ) → Inside a old new s part p → Level a old new s part p
inside_level a old new s part p is = (
  (ap (λ b. cond b a (new p)) is.0 ∙ sym (ap (λ b. cond b a (old p)) is.1)),
  (ap (λ b. cond b a (new p)) (lost_in (s p) (part p) is.1) ∙ is.2),
)

beside_at : (a label : ℕ) (x : Bool) → (x ≡ false) ⊎ (label ≡ a) → cond x a label ≡ label
beside_at a label x (inl h) = ap (λ b. cond b a label) h
beside_at a label true (inr h) = sym h
beside_at a label false (inr h) = refl

beside_level : (a : ℕ) (old new : ℕ → ℕ) (s part : ℕ → Bool) (p : ℕ) → Beside a old new s part p → Level a old new s part p
beside_level a old new s part p is =
    let here = beside_at a (new p) (s p) is.2 in (
      (here ∙ is.1 ∙ sym (ap (λ b. cond b a (old p)) is.0)),
      (ap (λ b. cond b a (new p)) (kept_off (s p) (part p) is.0) ∙ here ∙ is.1),
    )

abbrev Apart : ℕ → (ℕ → ℕ) → (ℕ → ℕ) → (ℕ → Bool) → (ℕ → Bool) → ℕ → Type 0
Apart a old new s part p =
    (labelling_made (Expand a) new s p ≡ labelling_made (Expand a) new (without s part) p)
    × (labelling_made (Expand a) old part p ≡ labelling_made (Expand a) old (λ q. false) p)

off_apart : (a : ℕ) (old new : ℕ → ℕ) (s part : ℕ → Bool) (p : ℕ) → part p ≡ false → Apart a old new s part p
off_apart a old new s part p none = (
  ap (λ b. cond b a (new p)) (sym (kept_off (s p) (part p) none)),
  ap (λ b. cond b a (old p)) none,
)

neither_or : (x y : Bool) → ((x ≡ true) ⊎ (y ≡ true)) ⊎ ((x ≡ false) × (y ≡ false))
neither_or true y = inl (inl refl)
neither_or false true = inl (inr refl)
neither_or false false = inr (refl, refl)

false_of : (b : Bool) → (b ≡ true → ⊥) → b ≡ false
false_of true h = absurd (h refl)
false_of false h = refl

clash : (b : Bool) → b ≡ true → b ≡ false → ⊥
clash b h k = (let e = sym h ∙ k in cc (e))

-- the site across from one of the part
across : (a : ℕ) (old new : ℕ → ℕ) (changed s part : ℕ → Bool) (v : ℕ) → (changed v ≡ false → new v ≡ old v) → changed v ≡ false
    → (part v ≡ true → s v ≡ true) → (s v ≡ true → new v ≢ a → part v ≡ true) → Level a old new s part v
across a old new changed s part v same still within apart = elim (cases_Bool (part v)) [
  | inl one ↦ inside_level a old new s part v (within one, one, same still)
  | inr none ↦ beside_level a old new s part v (
    none,
    same still,
    elim (cases_eq (new v) a) [
      | inl has ↦ inr has
      | inr can ↦ inl (false_of (s v) (λ takes. clash (part v) (apart takes can) none))
    ],
  )
]

pub no_stale_part : (m : Instance) (a : ℕ) (new : ℕ → ℕ) (changed fresh s part : ℕ → Bool) → IsInstance m → WasExpanded m a changed new
    → AreFresh m a new changed fresh → IsSmallestLeast m.sites (move_value m (Expand a) new) s
    → IsPartOf m a new s part → HoldsNoFresh m.sites fresh part → (p : ℕ) → p < m.sites → part p ≡ false
no_stale_part m a new changed fresh s part pairs was are_fresh best is stale p l =
    let old = was.old in
    let marked = was.marked in
    let can = λ (u : ℕ) (lu : u < m.sites) (one : part u ≡ true). ones_can_take m a new s u pairs best lu (is.within u lu one) in
    let own = λ (u : ℕ) (lu : u < m.sites) (one : part u ≡ true).
    false_of (changed u) (λ ch. clash (fresh u) (are_fresh.own u lu (can u lu one) ch) (stale u lu one)) in
    let mine = λ (u : ℕ) (lu : u < m.sites) (one : part u ≡ true).
    inside_level a old new s part u (is.within u lu one, one, marked u lu (own u lu one)) in
    let at_sites : (u : ℕ) → u < m.sites → Paired (labelling_made (Expand a) new s) (labelling_made (Expand a) new (without s part)) (labelling_made (Expand a) old part) (labelling_made (Expand a) old (λ q. false)) u u =
    λ u lu. elim (cases_Bool (part u)) [
      | inl one ↦ (let e = mine u lu one in inl (e.0, e.0, e.1, e.1))
      | inr off ↦ (let e = off_apart a old new s part u off in inr (e.0, e.0, e.1, e.1))
    ] in
    let at_pairs : All (λ pair. Paired (labelling_made (Expand a) new s) (labelling_made (Expand a) new (without s part)) (labelling_made (Expand a) old part) (labelling_made (Expand a) old (λ q. false)) pair.first pair.second) m.pairs =
    λ i d li.
    let pair : Pair = get_or m.pairs i d in
    let ends : IsPair m.sites pair = pairs i d li in
    let cross : IsFreshAcross a new changed fresh pair = are_fresh.beside i d li in
    let sep : IsApart a new s part pair = is.apart i d li in
    elim (neither_or (part pair.first) (part pair.second)) [
      | inr off ↦
          let e = off_apart a old new s part pair.first off.0 in
          let g = off_apart a old new s part pair.second off.1 in
          inr (e.0, g.0, e.1, g.1)
      | inl (inl one) ↦
          let e = mine pair.first ends.first one in
          let still = false_of (changed pair.second) (λ ch. clash (fresh pair.first) (cross.0 (can pair.first ends.first one) ch) (stale pair.first ends.first one)) in
          let g = across a old new changed s part pair.second (marked pair.second ends.second) still (is.within pair.second ends.second) (sep.0 one) in
          inl (e.0, g.0, e.1, g.1)
      | inl (inr one) ↦
          let g = mine pair.second ends.second one in
          let still = false_of (changed pair.first) (λ ch. clash (fresh pair.second) (cross.1 (can pair.second ends.second one) ch) (stale pair.second ends.second one)) in
          let e = across a old new changed s part pair.first (marked pair.first ends.first) still (is.within pair.first ends.first) (sep.1 one) in
          inl (e.0, g.0, e.1, g.1)
    ] in
    let even = plain_even m (labelling_made (Expand a) new s) (labelling_made (Expand a) new (without s part)) (labelling_made (Expand a) old part) (labelling_made (Expand a) old (λ q. false)) at_sites at_pairs in
    let base = was.lowest part in
    let least = best.least (without s part) in
    let level : move_value m (Expand a) new (without s part) ≡ move_value m (Expand a) new s = ap pos (omega (arith, ints, even, base, least)) in
    false_of (part p) (λ one. clash (without s part p) (best.smallest (without s part) level p l (is.within p l one)) (lost_in (s p) (part p) one))

-- ---- closing

kept_parts : (x y : Bool) → (x && not y) ≡ true → (x ≡ true) × (y ≡ false)
kept_parts true true h = absurd (cc (h))
kept_parts true false h = (refl, refl)
kept_parts false y h = absurd (cc (h))

kept_from : (x y : Bool) → x ≡ true → y ≡ false → (x && not y) ≡ true
kept_from x y h k = kept_off x y k ∙ h

-- what of s lies outside a set that no pair leaves within t, is a part of s
left_apart : (a : ℕ) (f : ℕ → ℕ) (s t R : ℕ → Bool) (u v : ℕ) → (s v ≡ true → t v ≡ true) → (s u ≡ true → t u ≡ true)
    → (s u ≡ true → f u ≢ a) → (R v ≡ true → t u ≡ true → f u ≢ a → R u ≡ true)
    → without s R u ≡ true → s v ≡ true → f v ≢ a → without s R v ≡ true
left_apart a f s t R u v bound_v bound_u can closed here takes may =
    let own = kept_parts (s u) (R u) here in
    kept_from (s v) (R v) takes (false_of (R v) (λ one. clash (R u) (closed one (bound_u own.0) (can own.0)) own.1))

pub closing : (m : Instance) (a : ℕ) (new : ℕ → ℕ) (changed fresh s t R : ℕ → Bool) → IsInstance m → WasExpanded m a changed new
    → AreFresh m a new changed fresh → IsSmallestLeast m.sites (move_value m (Expand a) new) s
    → OnesLieWithin m.sites s t → All (IsApart a new t R) m.pairs → HoldsFresh m.sites fresh t R → OnesLieWithin m.sites s R
closing m a new changed fresh s t R pairs was are_fresh best bound apart looked p l one =
    let is : IsPartOf m a new s (without s R) = record {
      within = λ q lq h. (kept_parts (s q) (R q) h).0;
      apart = λ i d li.
          let pair : Pair = get_or m.pairs i d in
          let ends : IsPair m.sites pair = pairs i d li in
          let sep : IsApart a new t R pair = apart i d li in
          let can_first = ones_can_take m a new s pair.first pairs best ends.first in
          let can_second = ones_can_take m a new s pair.second pairs best ends.second in (
            (left_apart a new s t R pair.first pair.second (bound pair.second ends.second) (bound pair.first ends.first) can_first sep.1),
            (left_apart a new s t R pair.second pair.first (bound pair.first ends.first) (bound pair.second ends.second) can_second sep.0),
          );
    } in
    let none = no_stale_part m a new changed fresh s (without s R) pairs was are_fresh best is
    (λ q lq h. let own = kept_parts (s q) (R q) h in false_of (fresh q) (λ f. clash (R q) (looked q lq f (bound q lq own.0)) own.1)) p l in
    elim (cases_Bool (R p)) [
      | inl has ↦ has
      | inr lacks ↦ absurd (clash (without s R p) (kept_from (s p) (R p) one lacks) none)
    ]

-- ---- the closed set is what takes the label

-- s in the set, and t elsewhere
abbrev swapped : (ℕ → Bool) → (ℕ → Bool) → (ℕ → Bool) → ℕ → Bool
swapped s t R k = cond (R k) (s k) (t k)

abbrev Four : ℕ → (ℕ → ℕ) → (ℕ → Bool) → (ℕ → Bool) → (ℕ → Bool) → ℕ → Type 0
Four a f s t R p =
    (labelling_made (Expand a) f t p ≡ labelling_made (Expand a) f R p)
    × (labelling_made (Expand a) f (swapped s t R) p ≡ labelling_made (Expand a) f s p)

four_in : (a : ℕ) (f : ℕ → ℕ) (s t R : ℕ → Bool) (p : ℕ) → R p ≡ true → t p ≡ true → Four a f s t R p
four_in a f s t R p one takes = (label_same a f t R p (takes ∙ sym one), label_same a f (swapped s t R) s p (ap (λ b. cond b (s p) (t p)) one))

four_beside : (a : ℕ) (f : ℕ → ℕ) (s t R : ℕ → Bool) (p : ℕ) → R p ≡ false → s p ≡ false → (t p ≡ false) ⊎ (f p ≡ a) → Four a f s t R p
four_beside a f s t R p off none low =
    let here = beside_at a (f p) (t p) low in (
      (here ∙ sym (ap (λ b. cond b a (f p)) off)),
      (ap (λ b. cond (cond b (s p) (t p)) a (f p)) off ∙ here ∙ sym (ap (λ b. cond b a (f p)) none)),
    )

abbrev Two : ℕ → (ℕ → ℕ) → (ℕ → Bool) → (ℕ → Bool) → (ℕ → Bool) → ℕ → Type 0
Two a f s t R p =
    (labelling_made (Expand a) f t p ≡ labelling_made (Expand a) f (swapped s t R) p)
    × (labelling_made (Expand a) f R p ≡ labelling_made (Expand a) f s p)

two_off : (a : ℕ) (f : ℕ → ℕ) (s t R : ℕ → Bool) (p : ℕ) → R p ≡ false → s p ≡ false → Two a f s t R p
two_off a f s t R p off none =
    (ap (λ b. cond b a (f p)) (sym (ap (λ b. cond b (s p) (t p)) off)), label_same a f R s p (off ∙ sym none))

four_across : (a : ℕ) (f : ℕ → ℕ) (s t R : ℕ → Bool) (v : ℕ) → (s v ≡ true → R v ≡ true) → (R v ≡ true → t v ≡ true)
    → (t v ≡ true → f v ≢ a → R v ≡ true) → Four a f s t R v
four_across a f s t R v inner within apart = elim (cases_Bool (R v)) [
  | inl one ↦ four_in a f s t R v one (within one)
  | inr off ↦ four_beside a f s t R v off (false_of (s v) (λ h. clash (R v) (inner h) off)) (elim (cases_eq (f v) a) [
    | inl has ↦ inr has
    | inr can ↦ inl (false_of (t v) (λ takes. clash (R v) (apart takes can) off))
  ])
]

pub swapped_le : (m : Instance) (a : ℕ) (f : ℕ → ℕ) (s t R : ℕ → Bool) → IsInstance m → IsSmallestLeast m.sites (move_value m (Expand a) f) s
    → OnesLieWithin m.sites s R → IsPartOf m a f t R → move_value m (Expand a) f (swapped s t R) ≤ℤ move_value m (Expand a) f t
swapped_le m a f s t R pairs best inner is =
    let off = λ (p : ℕ) (l : p < m.sites) (none : R p ≡ false). false_of (s p) (λ h. clash (R p) (inner p l h) none) in
    let at_sites : (p : ℕ) → p < m.sites → Paired (labelling_made (Expand a) f t) (labelling_made (Expand a) f (swapped s t R)) (labelling_made (Expand a) f R) (labelling_made (Expand a) f s) p p =
    λ p l. elim (cases_Bool (R p)) [
      | inl one ↦ (let e = four_in a f s t R p one (is.within p l one) in inl (e.0, e.0, e.1, e.1))
      | inr none ↦ (let e = two_off a f s t R p none (off p l none) in inr (e.0, e.0, e.1, e.1))
    ] in
    let at_pairs : All (λ pair. Paired (labelling_made (Expand a) f t) (labelling_made (Expand a) f (swapped s t R)) (labelling_made (Expand a) f R) (labelling_made (Expand a) f s) pair.first pair.second) m.pairs =
    λ i d li.
    let pair : Pair = get_or m.pairs i d in
    let ends : IsPair m.sites pair = pairs i d li in
    let sep : IsApart a f t R pair = is.apart i d li in
    elim (neither_or (R pair.first) (R pair.second)) [
      | inr none ↦
          let e = two_off a f s t R pair.first none.0 (off pair.first ends.first none.0) in
          let g = two_off a f s t R pair.second none.1 (off pair.second ends.second none.1) in
          inr (e.0, g.0, e.1, g.1)
      | inl (inl one) ↦
          let e = four_in a f s t R pair.first one (is.within pair.first ends.first one) in
          let g = four_across a f s t R pair.second (inner pair.second ends.second) (is.within pair.second ends.second) (sep.0 one) in
          inl (e.0, g.0, e.1, g.1)
      | inl (inr one) ↦
          let g = four_in a f s t R pair.second one (is.within pair.second ends.second one) in
          let e = four_across a f s t R pair.first (inner pair.first ends.first) (is.within pair.first ends.first) (sep.1 one) in
          inl (e.0, g.0, e.1, g.1)
    ] in
    let even = plain_even m (labelling_made (Expand a) f t) (labelling_made (Expand a) f (swapped s t R)) (labelling_made (Expand a) f R) (labelling_made (Expand a) f s) at_sites at_pairs in
    let least = best.least R in
    omega (arith, ints, even, least)
