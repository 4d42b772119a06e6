-- Lists of chosen sites.
use Rattle.std.proofs.Common.{◌≡◌, ℕ, zero, suc, ◌+◌, ◌<◌, ◌≤◌, Bool, true, false, cond, List, [], ◌∷◌, ◌++◌, length, get_or, sum_by, refl, sym, ap, ◌∙◌, inl, inr, arith}
use Rattle.std.proofs.lemmas.Bool.{cases_lt}
use Rattle.std.proofs.lemmas.List.{get_or_push, get_or_append_left, length-append}
use Rattle.std.proofs.lemmas.List.Sums.{sum_by-cons, sum_by-append}
use Rattle.sums.specs.Sums.{sum_below, count_if}
use Rattle.move_energy.specs.BySite.{rising_sites}

-- how many of the first n sites are chosen
abbrev pub chosen_below : (ℕ → Bool) → ℕ → ℕ
chosen_below chosen n = sum_below n (λ p. count_if (chosen p) 1)

sum_step : (value : ℕ → ℕ) (xs : List ℕ) (n : ℕ) (b : Bool) → sum_by value (xs ++ cond b (n ∷ []) []) ≡ sum_by value xs + count_if b (value n)
sum_step value xs n true = omega (arith, sum_by-append value xs (n ∷ []), sum_by-cons value n [])
sum_step value xs n false = omega (arith, sum_by-append value xs [])

-- the sum over the list is that over the chosen ones of all sites
pub listed_sites_are_summed : (chosen : ℕ → Bool) (n : ℕ) (value : ℕ → ℕ) → sum_by value (rising_sites chosen n) ≡ sum_below n (λ p. count_if (chosen p) (value p))
listed_sites_are_summed chosen zero value = refl
listed_sites_are_summed chosen (suc n) value = omega (arith, sum_step value (rising_sites chosen n) n (chosen n), listed_sites_are_summed chosen n value)

length_step : (xs : List ℕ) (n : ℕ) (b : Bool) → length (xs ++ cond b (n ∷ []) []) ≡ length xs + count_if b 1
length_step xs n true = length-append xs (n ∷ [])
length_step xs n false = length-append xs []

pub listing_length : (chosen : ℕ → Bool) (n : ℕ) → length (rising_sites chosen n) ≡ chosen_below chosen n
listing_length chosen zero = refl
listing_length chosen (suc n) = omega (arith, length_step (rising_sites chosen n) n (chosen n), listing_length chosen n)

counted_one : (b : Bool) → count_if b 1 ≤ 1
counted_one true = omega arith
counted_one false = omega arith

pub listing_short : (chosen : ℕ → Bool) (n : ℕ) → length (rising_sites chosen n) ≤ n
listing_short chosen zero = omega arith
listing_short chosen (suc n) = omega (arith, length_step (rising_sites chosen n) n (chosen n), listing_short chosen n, counted_one (chosen n))

-- where a chosen site stands in the list
place_last : (xs : List ℕ) (n : ℕ) (b : Bool) → b ≡ true → get_or (xs ++ cond b (n ∷ []) []) (length xs) 0 ≡ n
place_last xs n true is = get_or_push xs n 0 (length xs) refl
place_last xs n false is = absurd (cc is)

counted_true : (b : Bool) → b ≡ true → count_if b 1 ≡ 1
counted_true true is = refl
counted_true false is = absurd (cc is)

pub listing_place : (chosen : ℕ → Bool) (n p : ℕ) → p < n → chosen p ≡ true
    → (chosen_below chosen p < length (rising_sites chosen n)) × (get_or (rising_sites chosen n) (chosen_below chosen p) 0 ≡ p)
listing_place chosen zero p l is = absurd (omega (arith, l))
listing_place chosen (suc n) p l is =
    let more = length_step (rising_sites chosen n) n (chosen n) in
    elim (cases_lt p n) [
      | inl before ↦
          let found = listing_place chosen n p before is in (
            omega (arith, found.0, more),
            get_or_append_left (rising_sites chosen n) (cond (chosen n) (n ∷ []) []) 0 (chosen_below chosen p) found.0 ∙ found.1,
          )
      | inr not_before ↦
          let here : p ≡ n = omega (arith, l, not_before) in
          let last : chosen n ≡ true = ap chosen (sym here) ∙ is in
          let at : chosen_below chosen p ≡ length (rising_sites chosen n) = ap (chosen_below chosen) here ∙ sym (listing_length chosen n) in (
            omega (arith, at, more, counted_true (chosen n) last),
            ap (λ i. get_or (rising_sites chosen (suc n)) i 0) at ∙ place_last (rising_sites chosen n) n (chosen n) last ∙ sym here,
          )
    ]

-- what stands in the list
has_last : (xs : List ℕ) (n i : ℕ) (b : Bool) → length xs ≤ i → i < length (xs ++ cond b (n ∷ []) []) → (b ≡ true) × (i ≡ length xs)
has_last xs n i true after l = (refl, omega (arith, after, l, length-append xs (n ∷ [])))
has_last xs n i false after l = absurd (omega (arith, after, l, length-append xs []))

pub listing_has : (chosen : ℕ → Bool) (n i : ℕ) → i < length (rising_sites chosen n)
    → (get_or (rising_sites chosen n) i 0 < n) × (chosen (get_or (rising_sites chosen n) i 0) ≡ true) × (chosen_below chosen (get_or (rising_sites chosen n) i 0) ≡ i)
listing_has chosen zero i l = absurd (omega (arith, l))
listing_has chosen (suc n) i l = elim (cases_lt i (length (rising_sites chosen n))) [
  | inl before ↦
      let found = listing_has chosen n i before in
      let same = get_or_append_left (rising_sites chosen n) (cond (chosen n) (n ∷ []) []) 0 i before in
      (omega (arith, same, found.0), ap chosen same ∙ found.1, ap (chosen_below chosen) same ∙ found.2)
  | inr not_before ↦
      let last = has_last (rising_sites chosen n) n i (chosen n) not_before l in
      let same : get_or (rising_sites chosen (suc n)) i 0 ≡ n = ap (λ j. get_or (rising_sites chosen (suc n)) j 0) last.1 ∙ place_last (rising_sites chosen n) n (chosen n) last.0 in
      (omega (arith, same), ap chosen same ∙ last.0, ap (chosen_below chosen) same ∙ sym (listing_length chosen n) ∙ sym last.1)
]
