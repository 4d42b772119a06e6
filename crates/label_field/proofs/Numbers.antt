-- Pairs that get their places as numbers.
use Rattle.std.proofs.Common.{◌≡◌, ℕ, zero, suc, ◌+◌, ◌<◌, ◌≤◌, Bool, true, List, [], ◌∷◌, length, get_or, subst, refl, sym, ap, ◌∙◌, inl, inr, arith}
use Rattle.std.specs.Prelude.{slice_set}
use Rattle.std.proofs.lemmas.Bool.{cases_eq}
use Rattle.std.proofs.lemmas.List.{same_lists, get_or-set_same, get_or-set_other, length-set, get_or_default as default_free}
use Rattle.label_field.specs.declared.pair.Pair.{Pair}
use Rattle.label_field.specs.PairLists.{IsPair, IsPairList, number_pairs}

-- a pair with a number
abbrev pub with_number : ℕ → Pair → Pair
with_number k pair = record pair { weight = k }

pub numbered_length : (n : ℕ) (pairs : List Pair) → length (number_pairs n pairs) ≡ length pairs
numbered_length n [] = refl
numbered_length n (pair ∷ pairs) = (let rest = numbered_length (suc n) pairs in omega (arith, rest))

pub numbered_at : (n : ℕ) (pairs : List Pair) (k : ℕ) (d : Pair) → k < length pairs → get_or (number_pairs n pairs) k d ≡ with_number (n + k) (get_or pairs k d)
numbered_at n [] k d l = absurd (omega (arith, l))
numbered_at n (pair ∷ pairs) zero d l = ap (λ w. with_number w pair) (omega arith)
numbered_at n (pair ∷ pairs) (suc k) d l =
    numbered_at (suc n) pairs k d (omega (arith, l)) ∙ ap (λ w. with_number w (get_or pairs k d)) (omega arith)

numbered_from_0 : (pairs : List Pair) (k : ℕ) (d : Pair) → k < length pairs → get_or (number_pairs 0 pairs) k d ≡ with_number k (get_or pairs k d)
numbered_from_0 pairs k d l = numbered_at 0 pairs k d l ∙ ap (λ w. with_number w (get_or pairs k d)) (omega arith)

-- such pairs are a list of pairs
pub numbered_list : (sites : ℕ) (pairs : List Pair) (numbered : Bool) → IsPairList (record { sites = sites; list = pairs; numbered = numbered })
    → IsPairList (record { sites = sites; list = number_pairs 0 pairs; numbered = true })
numbered_list sites pairs numbered is = record {
  sites = is.sites;
  count = omega (arith, is.count, numbered_length 0 pairs);
  each = λ k d l.
      (let inside : k < length pairs = omega (arith, l, numbered_length 0 pairs) in
      let at = is.each k d inside in
      let P : Pair → Type 0 = λ pair. IsPair sites pair in
      subst P (sym (numbered_from_0 pairs k d inside)) (record { first = at.first; second = at.second; unequal = at.unequal }));
  weights = λ k d l.
      (let inside : k < length pairs = omega (arith, l, numbered_length 0 pairs) in
      let is_k = ap (λ (pair : Pair). pair.weight) (numbered_from_0 pairs k d inside) in
      record { weighted = λ never. absurd (cc (never)); numbered = λ yes. omega (arith, is_k, l) });
}

-- the pairs of the new list before a place have their places as numbers, and the others are as they
-- were
pub record AreNumberedBelow (old new : List Pair) (place : ℕ) : Type 0 where
  pub size : length new ≡ length old
  pub done : (k : ℕ) (d : Pair) → k < place → get_or new k d ≡ with_number k (get_or old k d)
  pub left : (k : ℕ) (d : Pair) → place ≤ k → get_or new k d ≡ get_or old k d

pub one_more : (old new : List Pair) (place : ℕ) (pair d : Pair) → AreNumberedBelow old new place → place < length old
    → pair ≡ with_number place (get_or new place d) → AreNumberedBelow old (slice_set new place pair) (place + 1)
one_more old new place pair d below before is = let inside : place < length new = omega (arith, before, below.size) in record {
  size = length-set new place pair ∙ below.size;
  done = λ k e l. elim (cases_eq k place) [
    | inl same ↦
        ap (λ n. get_or (slice_set new place pair) n e) same ∙ get_or-set_same new place pair e inside ∙ is
        ∙ ap (with_number place) (default_free new place d e inside ∙ below.left place e (omega arith))
        ∙ (λ i. with_number (sym same i) (get_or old (sym same i) e))
    | inr other ↦ get_or-set_other new place k pair e other ∙ below.done k e (omega (arith, l, other))
  ];
  left = λ k e l. get_or-set_other new place k pair e (λ same. absurd (omega (arith, same, l))) ∙ below.left k e (omega (arith, l));
}

pub all_numbered : (old new : List Pair) (place : ℕ) → length old ≤ place → AreNumberedBelow old new place → new ≡ number_pairs 0 old
all_numbered old new place end below = same_lists new (number_pairs 0 old) (below.size ∙ sym (numbered_length 0 old))
    (λ k d l. below.done k d (omega (arith, l, below.size, end)) ∙ sym (numbered_from_0 old k d (omega (arith, l, below.size))))
