-- The rises of a site, summed over its own pairs.
use Rattle.std.proofs.Common.{◌≡◌, ◌≢◌, ℕ, ◌+◌, ◌*◌, ◌<◌, ◌≤◌, ◌==◌, Bool, true, false, ℤ, pos, ◌+ℤ◌, ◌-ℤ◌, unsigned_abs, w64, to_z, of_z, lit<, sym, ap, ◌∙◌, inl, inr, arith}
use Rattle.std.proofs.lemmas.Int.{to_z-of_z}
use Rattle.std.proofs.lemmas.Bool.{cases_eq}
use Rattle.std.proofs.lemmas.Bool.Decides.{nat_tests}
use Rattle.sums.specs.IntegerSums.{int_sum_below}
use Rattle.sums.proofs.IntegerSumLemmas.{within_fits}
use Rattle.move_energy.specs.declared.by_site.Neighbours.{Neighbours}
use Rattle.label_field.specs.declared.pair.Pair.{Pair}
use Rattle.move_energy.specs.BySite.{AreNeighboursOf, degree, pair_of}
use Rattle.move_energy.proofs.Beside.{site_sum}
use Rattle.label_energies.specs.declared.change.Move.{Move}
use Rattle.label_energies.specs.Energies.{Instance, IsInstance}
use Rattle.label_energies.specs.Moves.{label_after}
use Rattle.move_energy.specs.Assignments.{rise}
use Rattle.move_energy.specs.MoveValues.{move_value, data_rise, pair_rise}
use Rattle.move_energy.specs.Ends.{AreEnds, AreTwoLabels, end_rise}
use Rattle.move_energy.proofs.Rising.{rise_parts, pair_rise-first, pair_rise-second, pair_rise-none}

-- ---- one pair

pub test_true : (a b : ℕ) → a ≡ b → (a == b) ≡ true
test_true a b h = grind (arith, nat_tests, h)

pub test_false : (a b : ℕ) → a ≢ b → (a == b) ≡ false
test_false a b h = grind (arith, nat_tests, h)

second_other : (pair : Pair) (site other : ℕ) → AreEnds pair site other → pair.first ≢ pair.second → pair.first ≡ site → pair.second ≡ other
second_other pair site other (inl ends) unequal here = ends.1
second_other pair site other (inr ends) unequal here = absurd (unequal (here ∙ sym ends.1))

first_other : (pair : Pair) (site other : ℕ) → AreEnds pair site other → pair.first ≢ site → (pair.first ≡ other) × (pair.second ≡ site)
first_other pair site other (inl ends) apart = absurd (apart ends.0)
first_other pair site other (inr ends) apart = ends

-- what is asked of a pair is its rise
pub asked_rise : (m : Instance) (move : Move) (f : ℕ → ℕ) (site other : ℕ) (x : ℕ → Bool) (pair : Pair) (stays turns label : ℕ)
    → AreEnds pair site other → pair.first ≢ pair.second → AreTwoLabels move (f site) stays turns → label ≡ label_after move (f other) (x other)
    → end_rise m pair.weight (pair.first == site) stays turns label ≡ pair_rise m move f site x pair
asked_rise m move f site other x pair stays turns label ends unequal turned is = elim (cases_eq pair.first site) [
  | inl here ↦
      let there = second_other pair site other ends unequal here in
      let one : turns ≡ label_after move (f pair.first) true = turned.1 ∙ ap (λ s. label_after move (f s) true) (sym here) in
      let none : stays ≡ label_after move (f pair.first) false = turned.0 ∙ ap (λ s. label_after move (f s) false) (sym here) in
      let beside : label ≡ label_after move (f pair.second) (x pair.second) = is ∙ ap (λ s. label_after move (f s) (x s)) (sym there) in
      ap (λ b. end_rise m pair.weight b stays turns label) (test_true pair.first site here)
      ∙ (λ i. pos (m.smooth_cost pair.weight (one i) (beside i)) -ℤ pos (m.smooth_cost pair.weight (none i) (beside i)))
      ∙ sym (pair_rise-first m move f site x pair here (λ same. unequal (here ∙ sym same)))
  | inr apart ↦
      let swapped = first_other pair site other ends apart in
      let one : turns ≡ label_after move (f pair.second) true = turned.1 ∙ ap (λ s. label_after move (f s) true) (sym swapped.1) in
      let none : stays ≡ label_after move (f pair.second) false = turned.0 ∙ ap (λ s. label_after move (f s) false) (sym swapped.1) in
      let beside : label ≡ label_after move (f pair.first) (x pair.first) = is ∙ ap (λ s. label_after move (f s) (x s)) (sym swapped.0) in
      ap (λ b. end_rise m pair.weight b stays turns label) (test_false pair.first site apart)
      ∙ (λ i. pos (m.smooth_cost pair.weight (beside i) (one i)) -ℤ pos (m.smooth_cost pair.weight (beside i) (none i)))
      ∙ sym (pair_rise-second m move f site x pair apart swapped.1)
]

-- ---- one pair after another

-- the first pairs of a site
abbrev pub risen : Instance → Move → (ℕ → ℕ) → Neighbours → ℕ → (ℕ → Bool) → ℕ → ℤ
risen m move f ends site x k = data_rise m move f site +ℤ int_sum_below k (λ i. pair_rise m move f site x (pair_of ends site i))

pub risen_all : (m : Instance) (move : Move) (f : ℕ → ℕ) (ends : Neighbours) (site : ℕ) (x : ℕ → Bool) → IsInstance m → AreNeighboursOf m ends → site < m.sites
    → risen m move f ends site x (degree ends site) ≡ rise (move_value m move f) site x
risen_all m move f ends site x pairs grouped inside =
    ap (λ s. data_rise m move f site +ℤ s)
    (sym (site_sum (record { sites = m.sites; list = m.pairs; numbered = false }) ends site (pair_rise m move f site x) pairs grouped inside (λ pair off other. pair_rise-none m move f site x pair off other)))
    ∙ sym (rise_parts m move f site x inside)

-- ---- the sums, as the machine counts them

-- a sum, as the machine passes it on
pub sum_passed : (z : ℤ) (k : ℕ) → unsigned_abs z ≤ 10000000 + 10000000 * k → k ≤ 8388608 → to_z w64 (of_z w64 z) ≡ z
sum_passed z k within few = to_z-of_z w64 z (within_fits 100000000000000 z (omega (arith, within, few)) (lit< tt))
