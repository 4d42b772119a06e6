-- What is nothing at pairs without an end at a site, summed over the site's own pairs.
use Rattle.std.proofs.Common.{◌≡◌, ◌≢◌, ℕ, zero, suc, ◌+◌, ◌*◌, ◌/◌, ◌<◌, List, [], ◌∷◌, length, All, ℤ, pos, negsuc, ◌-ℤ◌, sym, ap, ◌∙◌, eqb, inl, inr, sum_by, arith}
use Rattle.std.specs.Prelude.{slice_index}
use Rattle.std.proofs.lemmas.Int.{ints}
use Rattle.std.proofs.lemmas.Bool.{cases_eq}
use Rattle.std.proofs.lemmas.List.Elements.{All-get_or}
use Rattle.std.proofs.lemmas.List.Sums.{sum_by-cons}
use Rattle.sums.specs.Sums.{sum_below, count_if}
use Rattle.sums.specs.IntegerSums.{int_sum_below, int_sum_by}
use Rattle.sums.proofs.SumLemmas.{sum_below-same, counted-same, counted-other, sum_by-sum_below}
use Rattle.label_field.specs.declared.pair.Pair.{Pair}
use Rattle.label_field.specs.PairLists.{IsPair}
use Rattle.counting_sort.specs.declared.Groups.{Groups}
use Rattle.counting_sort.specs.Grouping.{IsGrouped}
use Rattle.move_energy.specs.BySite.{pair_ends, pair_in}
use Rattle.move_energy.proofs.Grouped.{degree, pair_of}
use Rattle.move_energy.proofs.PairEnds.{half_even, half_odd, ends_first, ends_second, ends_len}
use Rattle.move_energy.proofs.Meetings.{part_sum, sum_twos}

-- a value is nothing at each pair that has no end at the site
abbrev pub IsOfSite : ℕ → (Pair → ℕ) → Type 0
IsOfSite site value = (pair : Pair) → pair.first ≢ site → pair.second ≢ site → value pair ≡ 0

counted_at : (a u z : ℕ) → a ≡ u → count_if (eqb a u) z ≡ z
counted_at a u z same = ap (λ i. count_if (eqb a i) z) (sym same) ∙ counted-same a z

counted_off : (a u z : ℕ) → a ≢ u → count_if (eqb a u) z ≡ 0
counted_off a u z other = counted-other a u z (λ same. other (sym same))

-- a pair is counted at one of its ends alone, or it is worth nothing
pair_once : (site : ℕ) (value : Pair → ℕ) (pair : Pair) → IsOfSite site value → pair.first ≢ pair.second
    → count_if (eqb pair.first site) (value pair) + count_if (eqb pair.second site) (value pair) ≡ value pair
pair_once site value pair of apart = elim (cases_eq pair.first site) [
  | inl here ↦
      omega (arith, counted_at pair.first site (value pair) here, counted_off pair.second site (value pair) (λ there. apart (here ∙ sym there)))
  | inr off ↦ elim (cases_eq pair.second site) [
    | inl there ↦ omega (arith, counted_off pair.first site (value pair) off, counted_at pair.second site (value pair) there)
    | inr neither ↦ omega (arith, counted_off pair.first site (value pair) off, counted_off pair.second site (value pair) neither, of pair off neither)
  ]
]

-- of natural numbers
natural_sum : (n site : ℕ) (list : List Pair) (ends : Groups) (value : Pair → ℕ) → All (IsPair n) list → IsGrouped n (pair_ends list) ends → site < n → IsOfSite site value
    → sum_below (degree ends site) (λ k. value (pair_of list ends site k)) ≡ sum_by value list
natural_sum n site list ends value all grouped inside of =
    let none : Pair = record { first = 0; second = 0; weight = 0 } in
    let xs = pair_ends list in
    let g : ℕ → ℕ = λ j. value (pair_in list (j / 2)) in
    let h : ℕ → ℕ = λ j. count_if (eqb (slice_index xs j) site) (g j) in
    let first : (k : ℕ) → k < length list → h (2 * k) ≡ count_if (eqb (pair_in list k).first site) (value (pair_in list k)) = λ k l i. count_if (eqb (ends_first list k none l i) site) (value (pair_in list (half_even k i))) in
    let second : (k : ℕ) → k < length list → h (2 * k + 1) ≡ count_if (eqb (pair_in list k).second site) (value (pair_in list k)) = λ k l i. count_if (eqb (ends_second list k none l i) site) (value (pair_in list (half_odd k i))) in
    part_sum n site xs ends g grouped inside ∙ ap (λ k. sum_below k h) (ends_len list) ∙ sum_twos (length list) h
    ∙ sum_below-same (length list) (λ k. h (2 * k) + h (2 * k + 1)) (λ k. value (pair_in list k))
    (λ k l. (λ i. first k l i + second k l i) ∙ pair_once site value (pair_in list k) of ((All-get_or (IsPair n) list k none l all).unequal))
    ∙ sym (sum_by-sum_below value list none)

-- a number as a difference of natural numbers
abbrev above : ℤ → ℕ
above (pos n) = n
above (negsuc n) = 0

abbrev below : ℤ → ℕ
below (pos n) = 0
below (negsuc n) = suc n

parts : (z : ℤ) → z ≡ pos (above z) -ℤ pos (below z)
parts (pos n) = omega (arith, ints)
parts (negsuc n) = omega (arith, ints)

parts_below : (n : ℕ) (g : ℕ → ℤ) → int_sum_below n g ≡ pos (sum_below n (λ k. above (g k))) -ℤ pos (sum_below n (λ k. below (g k)))
parts_below zero g = omega (arith, ints)
parts_below (suc n) g = omega (arith, ints, parts_below n g, parts (g n))

parts_by : (list : List Pair) (g : Pair → ℤ) → int_sum_by g list ≡ pos (sum_by (λ p. above (g p)) list) -ℤ pos (sum_by (λ p. below (g p)) list)
parts_by [] g = omega (arith, ints)
parts_by (p ∷ ps) g = omega (arith, ints, parts_by ps g, parts (g p), sum_by-cons (λ q. above (g q)) p ps, sum_by-cons (λ q. below (g q)) p ps)

-- what is nothing at each pair without an end at the site has the same sum over all pairs and over
-- the site's
pub site_sum : (n site : ℕ) (list : List Pair) (ends : Groups) (g : Pair → ℤ) → All (IsPair n) list → IsGrouped n (pair_ends list) ends → site < n
    → ((pair : Pair) → pair.first ≢ site → pair.second ≢ site → g pair ≡ pos 0)
    → int_sum_by g list ≡ int_sum_below (degree ends site) (λ k. g (pair_of list ends site k))
site_sum n site list ends g all grouped inside none =
    let by = parts_by list g in
    let own = parts_below (degree ends site) (λ k. g (pair_of list ends site k)) in
    let one = natural_sum n site list ends (λ p. above (g p)) all grouped inside (λ p off other. ap above (none p off other)) in
    let two = natural_sum n site list ends (λ p. below (g p)) all grouped inside (λ p off other. ap below (none p off other)) in
    omega (arith, ints, by, own, one, two)
