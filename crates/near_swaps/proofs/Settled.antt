-- Sets of sites that stand by themselves in a swap.
use Rattle.std.proofs.Common.{◌≡◌, ◌≤ℤ◌, ◌≢◌, ◌⊎◌, ◌==◌, ℕ, ◌<◌, Bool, true, false, cond, not, get_or, pos, refl, sym, ap, ◌∙◌, inl, inr, arith, ℤ}
use Rattle.std.specs.List.{All}
use Rattle.std.proofs.lemmas.Int.{ints}
use Rattle.std.proofs.lemmas.Bool.{cases_Bool}
use Rattle.label_field.specs.declared.pair.Pair.{Pair}
use Rattle.label_field.specs.PairLists.{IsPair}
use Rattle.label_energies.specs.declared.change.Move.TheVariants.{Swap}
use Rattle.label_energies.specs.Energies.{Instance, IsInstance}
use Rattle.label_energies.specs.Moves.{label_after, labelling_made, IsAllowed}
use Rattle.move_energy.specs.Assignments.{IsOver}
use Rattle.move_energy.specs.MoveValues.{move_value}
use Rattle.move_energy.proofs.Rising.{move_falls, move_over}
use Rattle.near_changes.specs.Fresh.{AreFresh, HoldsFresh, IsFreshAcross}
use Rattle.near_changes.proofs.Parts.{plain_even}
use Rattle.near_swaps.specs.Swaps.{kept_values, WasSwapped, KeepsOutside, IsClosedAt, AreLeastBetween, may_turn, may_turn_at}
use Rattle.persistency.proofs.Existing.{least_exists}
use Rattle.site_bounds.specs.Decisions.{IsSmallestLeast}

false_of : (b : Bool) → (b ≡ true → ⊥) → b ≡ false
false_of true h = absurd (h refl)
false_of false h = refl

clash : (b : Bool) → b ≡ true → b ≡ false → ⊥
clash b h k = (let e = sym h ∙ k in cc (e))

same_or : (x y : Bool) → (x ≡ y) ⊎ (x ≡ not y)
same_or true true = inl refl
same_or true false = inr refl
same_or false true = inr refl
same_or false false = inl refl

other_not : (x y : Bool) → x ≡ not y → x ≡ y → ⊥
other_not true true h k = absurd (cc (h))
other_not true false h k = absurd (cc (k))
other_not false true h k = absurd (cc (k))
other_not false false h k = absurd (cc (h))

-- the sites outside a set whose values differ from those that keep their labels
abbrev differs : Bool → Bool → Bool → Bool
differs true x kept = false
differs false true kept = not kept
differs false false kept = kept

differs_outside : (set x kept : Bool) → differs set x kept ≡ true → set ≡ false
differs_outside true x kept h = absurd (cc (h))
differs_outside false x kept h = refl

differs_other : (set x kept : Bool) → differs set x kept ≡ true → x ≡ not kept
differs_other true x kept h = absurd (cc (h))
differs_other false true true h = absurd (cc (h))
differs_other false true false h = refl
differs_other false false true h = refl
differs_other false false false h = absurd (cc (h))

same_unless : (set x kept : Bool) → differs set x kept ≡ false → set ≡ false → x ≡ kept
same_unless true x kept h k = absurd (cc (k))
same_unless false true true h k = refl
same_unless false true false h k = absurd (cc (h))
same_unless false false true h k = absurd (cc (h))
same_unless false false false h k = refl

-- of two ways in which a site may have another value, none is left
neither_way : (x kept : Bool) → x ≡ not kept → (x ≡ true → kept ≡ true) → (kept ≡ true → x ≡ true) → ⊥
neither_way true true h up down = absurd (cc (h))
neither_way true false h up down = (let e = up refl in cc (e))
neither_way false true h up down = (let e = down refl in cc (e))
neither_way false false h up down = absurd (cc (h))

-- ---- four labellings of a site: by the least values now, by them with a part turned back, by
-- those that were settled with the part turned, and by these

abbrev Now : ℕ → ℕ → ℕ → Bool → ℕ
Now a b new x = label_after (Swap a b) new x

abbrev Back : ℕ → ℕ → ℕ → Bool → Bool → ℕ
Back a b new x part = label_after (Swap a b) new (cond part (new == b) x)

abbrev Turned : ℕ → ℕ → ℕ → Bool → Bool → ℕ
Turned a b old x part = label_after (Swap a b) old (cond part x (old == b))

abbrev Was : ℕ → ℕ → ℕ → ℕ
Was a b old = label_after (Swap a b) old (old == b)

abbrev Level : ℕ → ℕ → ℕ → ℕ → Bool → Bool → Type 0
Level a b new old x part = (Now a b new x ≡ Turned a b old x part) × (Back a b new x part ≡ Was a b old)

inside_level : (a b new old : ℕ) (x part : Bool) → part ≡ true → new ≡ old → Level a b new old x part
inside_level a b new old x true one same = (ap (λ k. label_after (Swap a b) k x) same, ap (λ k. label_after (Swap a b) k (k == b)) same)
inside_level a b new old x false one same = absurd (cc (one))

across_level : (a b new old : ℕ) (x part : Bool) → part ≡ false → new ≡ old → x ≡ (new == b) → Level a b new old x part
across_level a b new old x true none same keeps = absurd (cc (none))
across_level a b new old x false none same keeps =
    let e = ap (λ y. label_after (Swap a b) new y) keeps ∙ ap (λ k. label_after (Swap a b) k (k == b)) same in
    (e, e)

off_level : (a b new old : ℕ) (x part : Bool) → part ≡ false → (Now a b new x ≡ Back a b new x part) × (Turned a b old x part ≡ Was a b old)
off_level a b new old x true none = absurd (cc (none))
off_level a b new old x false none = (refl, refl)

either_or : (x y : Bool) → ((x ≡ true) ⊎ (y ≡ true)) ⊎ ((x ≡ false) × (y ≡ false))
either_or true y = inl (inl refl)
either_or false true = inl (inr refl)
either_or false false = inr (refl, refl)

pub closed_holds : (m : Instance) (a b none : ℕ) (new : ℕ → ℕ) (changed fresh s t set : ℕ → Bool) → IsInstance m → WasSwapped m a b changed new
    → ((p : ℕ) → p < m.sites → new p ≢ none) → AreFresh m none new changed fresh → IsSmallestLeast m.sites (move_value m (Swap a b) new) s
    → KeepsOutside m.sites b new t s → All (IsClosedAt t set) m.pairs → HoldsFresh m.sites fresh t set → KeepsOutside m.sites b new set s
closed_holds m a b none new changed fresh s t set pairs was other are_fresh best keeps closed looked p l outside =
    let old = was.old in
    let kept : ℕ → Bool = kept_values b new in
    let part : ℕ → Bool = λ q. differs (set q) (s q) (kept q) in
    let may : (u : ℕ) → u < m.sites → part u ≡ true → t u ≡ true = λ u lu one. elim (cases_Bool (t u)) [
      | inl there ↦ there
      | inr gone ↦ absurd (other_not (s u) (kept u) (differs_other (set u) (s u) (kept u) one) (keeps u lu gone))
    ] in
    let stale : (u : ℕ) → u < m.sites → part u ≡ true → fresh u ≡ false = λ u lu one.
    false_of (fresh u) (λ f. clash (set u) (looked u lu f (may u lu one)) (differs_outside (set u) (s u) (kept u) one)) in
    let still : (u : ℕ) → u < m.sites → part u ≡ true → new u ≡ old u = λ u lu one.
    was.marked u lu (false_of (changed u) (λ ch. clash (fresh u) (are_fresh.own u lu (other u lu) ch) (stale u lu one))) in
    let back : ℕ → Bool = λ q. cond (part q) (kept q) (s q) in
    let turned : ℕ → Bool = λ q. cond (part q) (s q) (kept_values b old q) in
    let A = labelling_made (Swap a b) new s in
    let B = labelling_made (Swap a b) new back in
    let C = labelling_made (Swap a b) old turned in
    let D = labelling_made (Swap a b) old (kept_values b old) in
    let mine : (u : ℕ) → u < m.sites → part u ≡ true → Level a b (new u) (old u) (s u) (part u) =
    λ u lu one. inside_level a b (new u) (old u) (s u) (part u) one (still u lu one) in
    let off : (u : ℕ) → part u ≡ false → (A u ≡ B u) × (C u ≡ D u) = λ u out. off_level a b (new u) (old u) (s u) (part u) out in
    let beside : (u v : ℕ) → u < m.sites → v < m.sites → part u ≡ true → (changed v ≡ true → fresh u ≡ true) → (set v ≡ true → t u ≡ true → set u ≡ true)
    → Level a b (new v) (old v) (s v) (part v) =
    λ u v lu lv one near apart. elim (cases_Bool (part v)) [
      | inl too ↦ mine v lv too
      | inr gone ↦
          let same = was.marked v lv (false_of (changed v) (λ ch. clash (fresh u) (near ch) (stale u lu one))) in
          let out = false_of (set v) (λ in_set. clash (set u) (apart in_set (may u lu one)) (differs_outside (set u) (s u) (kept u) one)) in
          across_level a b (new v) (old v) (s v) (part v) gone same (same_unless (set v) (s v) (kept v) gone out)
    ] in
    let at_sites : (u : ℕ) → u < m.sites → ((A u ≡ C u) × (A u ≡ C u) × (B u ≡ D u) × (B u ≡ D u)) ⊎ ((A u ≡ B u) × (A u ≡ B u) × (C u ≡ D u) × (C u ≡ D u)) =
    λ u lu. elim (cases_Bool (part u)) [
      | inl one ↦ (let e = mine u lu one in inl (e.0, e.0, e.1, e.1))
      | inr gone ↦ (let e = off u gone in inr (e.0, e.0, e.1, e.1))
    ] in
    let at_pairs : All (λ pair. ((A pair.first ≡ C pair.first) × (A pair.second ≡ C pair.second) × (B pair.first ≡ D pair.first) × (B pair.second ≡ D pair.second)) ⊎ ((A pair.first ≡ B pair.first) × (A pair.second ≡ B pair.second) × (C pair.first ≡ D pair.first) × (C pair.second ≡ D pair.second))) m.pairs =
    λ i d li.
    let pair : Pair = get_or m.pairs i d in
    let u = pair.first in
    let v = pair.second in
    let ends : IsPair m.sites pair = pairs i d li in
    let cross : IsFreshAcross none new changed fresh pair = are_fresh.beside i d li in
    let sep : IsClosedAt t set pair = closed i d li in
    elim (either_or (part u) (part v)) [
      | inr gone ↦ (let e = off u gone.0 in let g = off v gone.1 in inr (e.0, g.0, e.1, g.1))
      | inl (inl one) ↦
          let e = mine u ends.first one in
          let g = beside u v ends.first ends.second one (λ ch. cross.0 (other u ends.first) ch) sep.1 in
          inl (e.0, g.0, e.1, g.1)
      | inl (inr one) ↦
          let g = mine v ends.second one in
          let e = beside v u ends.second ends.first one (λ ch. cross.1 (other v ends.second) ch) sep.0 in
          inl (e.0, g.0, e.1, g.1)
    ] in
    let even = plain_even m A B C D at_sites at_pairs in
    let base = was.settled.least turned in
    let least = best.least back in
    let now_level : move_value m (Swap a b) new back ≡ move_value m (Swap a b) new s = ap pos (omega (arith, ints, even, base, least)) in
    let old_level : move_value m (Swap a b) old turned ≡ move_value m (Swap a b) old (kept_values b old) = ap pos (omega (arith, ints, even, base, least)) in
    elim (cases_Bool (part p)) [
      | inr gone ↦ same_unless (set p) (s p) (kept p) gone outside
      | inl one ↦
          let was_kept : kept p ≡ kept_values b old p = ap (λ k. k == b) (still p l one) in
          absurd (neither_way (s p) (kept p) (differs_other (set p) (s p) (kept p) one)
          (λ takes. sym (ap (λ c. cond c (kept p) (s p)) one) ∙ best.smallest back now_level p l takes)
          (λ has. sym (ap (λ c. cond c (s p) (kept_values b old p)) one) ∙ was.settled.smallest turned old_level p l (sym was_kept ∙ has)))
    ]

le_along : (a b c : ℤ) → b ≡ a → a ≤ℤ c → b ≤ℤ c
le_along a b c h k = omega (arith, ints, h, k)

pub least_along : (n : ℕ) (E : (ℕ → Bool) → ℤ) (x y : ℕ → Bool) → IsOver n E → IsSmallestLeast n E x → ((k : ℕ) → k < n → y k ≡ x k) → IsSmallestLeast n E y
least_along n E x y over best same = record {
  least = λ z. le_along _ _ _ (over y x same) (best.least z);
  smallest = λ z level k l one. best.smallest z (level ∙ over y x same) k l (sym (same k l) ∙ one);
}

-- ---- the bounds and the set end the swap

settled_keeps : (kept lower upper s : Bool) → (lower ≡ true → s ≡ true) → (s ≡ true → upper ≡ true) → may_turn kept lower upper ≡ false → s ≡ kept
settled_keeps true true upper s low high h = low refl
settled_keeps true false upper s low high h = absurd (cc (h))
settled_keeps false lower true s low high h = absurd (cc (h))
settled_keeps false lower false true low high h = absurd (let e = high refl in cc (e))
settled_keeps false lower false false low high h = refl

both_ways : (x y : Bool) → (x ≡ true → y ≡ true) → (y ≡ true → x ≡ true) → x ≡ y
both_ways true y f g = sym (f refl)
both_ways false true f g = g refl
both_ways false false f g = refl

chosen_if : (set lower kept x s : Bool) → x ≡ cond set lower kept → (set ≡ true → s ≡ lower) → (set ≡ false → s ≡ kept) → x ≡ s
chosen_if true lower kept x s is inside outside = is ∙ sym (inside refl)
chosen_if false lower kept x s is inside outside = is ∙ sym (outside refl)

pub closed_ends : (m : Instance) (a b none : ℕ) (f : ℕ → ℕ) (changed fresh lower upper set x : ℕ → Bool) → IsInstance m → IsAllowed m (Swap a b) f
    → WasSwapped m a b changed f → ((p : ℕ) → p < m.sites → f p ≢ none) → AreFresh m none f changed fresh
    → AreLeastBetween m.sites (move_value m (Swap a b) f) lower upper → All (IsClosedAt (may_turn_at b f lower upper) set) m.pairs
    → HoldsFresh m.sites fresh (may_turn_at b f lower upper) set → ((p : ℕ) → p < m.sites → set p ≡ true → lower p ≡ upper p)
    → ((p : ℕ) → p < m.sites → x p ≡ cond (set p) (lower p) (kept_values b f p)) → IsSmallestLeast m.sites (move_value m (Swap a b) f) x
closed_ends m a b none f changed fresh lower upper set x pairs allowed was other are_fresh between closed looked same chosen =
    let E = move_value m (Swap a b) f in
    let over = move_over m (Swap a b) f pairs in
    let found = least_exists m.sites E (move_falls m (Swap a b) f pairs allowed) over in
    let s = found.0 in
    let best : IsSmallestLeast m.sites E s = found.1 in
    let low = between.below s best in
    let high = between.above s best in
    let stays : KeepsOutside m.sites b f (may_turn_at b f lower upper) s = λ p l h. settled_keeps (kept_values b f p) (lower p) (upper p) (s p) (low p l) (high p l) h in
    let outside = closed_holds m a b none f changed fresh s (may_turn_at b f lower upper) set pairs was other are_fresh best stays closed looked in
    least_along m.sites E s x over best (λ p l. chosen_if (set p) (lower p) (kept_values b f p) (x p) (s p) (chosen p l)
    (λ one. both_ways (s p) (lower p) (λ takes. same p l one ∙ high p l takes) (low p l)) (outside p l))
