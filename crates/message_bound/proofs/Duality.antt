-- Weak duality, by induction on the list of pairs.
use Rattle.std.proofs.Common.{◌≡◌, ◌≢◌, ℕ, zero, suc, ◌<◌, eqb, List, [], ◌∷◌, All, ℤ, pos, ◌+ℤ◌, ◌≤ℤ◌, refl, sym, arith}
use Rattle.std.specs.List.{sum_by}
use Rattle.std.proofs.lemmas.Bool.Decides.{nat_tests}
use Rattle.std.proofs.lemmas.Int.{ints}
use Rattle.std.proofs.lemmas.List.Elements.{All-head, All-tail}
use Rattle.std.proofs.lemmas.List.Sums.{sum_by-cons}
use Rattle.sums.specs.Sums.{sum_below}
use Rattle.sums.specs.IntegerSums.{int_sum_below, int_counted}
use Rattle.sums.proofs.IntegerSumLemmas.{int_sum_below-change, int_sum_below-zero}
use Rattle.label_field.specs.declared.pair.Pair.{Pair}
use Rattle.label_field.specs.PairLists.{IsPair}
use Rattle.label_energies.specs.Energies.{Instance, IsLabelled, pair_cost}
use Rattle.message_bound.specs.Duality.{added_at, adjusted_cost, AreAfforded, WeakDuality}

sum-add : (n : ℕ) (f g : ℕ → ℤ) → int_sum_below n (λ i. f i +ℤ g i) ≡ int_sum_below n f +ℤ int_sum_below n g
sum-add zero f g = refl
sum-add (suc n) f g = omega (arith, ints, sum-add n f g)

sum-le : (n : ℕ) (f g : ℕ → ℤ) → ((i : ℕ) → i < n → f i ≤ℤ g i) → int_sum_below n f ≤ℤ int_sum_below n g
sum-le zero f g le = omega (arith, ints)
sum-le (suc n) f g le = omega (arith, ints, sum-le n f g (λ i h. le i (omega arith)), le n (omega arith))

sum-pos : (n : ℕ) (f : ℕ → ℕ) → int_sum_below n (λ i. pos (f i)) ≡ pos (sum_below n f)
sum-pos zero f = refl
sum-pos (suc n) f = omega (arith, ints, sum-pos n f)

own-counted : (u : ℕ) (z : ℤ) → int_counted (eqb u u) z ≡ z
own-counted u z = grind (arith, nat_tests)

other-counted : (u i : ℕ) (z : ℤ) → i ≢ u → int_counted (eqb u i) z ≡ pos 0
other-counted u i z ne = grind (arith, nat_tests)

-- of all sites, the one that is counted
pick : (n u : ℕ) (h : ℕ → ℤ) → u < n → int_sum_below n (λ p. int_counted (eqb u p) (h p)) ≡ h u
pick n u h lt =
    omega (
      arith,
      ints,
      own-counted u (h u),
      int_sum_below-zero n,
      int_sum_below-change n u (λ p. pos 0) (λ p. int_counted (eqb u p) (h p)) lt (λ p l ne. sym (other-counted u p (h p) ne)),
    )

-- the messages add up to no more than the pairs cost
messages-le : (m : Instance) (f s : ℕ → ℕ → ℤ) (g : ℕ → ℕ) (pairs : List Pair) (k : ℕ) → IsLabelled m g
    → All (IsPair m.sites) pairs → AreAfforded m f s pairs k
    → int_sum_below m.sites (λ p. added_at f s pairs k p (g p)) ≤ℤ pos (sum_by (pair_cost m g) pairs)
messages-le m f s g [] k labelled are afforded = omega (arith, ints, int_sum_below-zero m.sites)
messages-le m f s g (pair ∷ pairs) k labelled are afforded =
    let is = All-head (IsPair m.sites) pair pairs are in
    let rest = messages-le m f s g pairs (suc k) labelled (All-tail (IsPair m.sites) pair pairs are) afforded.1 in
    let own = afforded.0 (g pair.first) (g pair.second) (labelled pair.first is.first) (labelled pair.second is.second) in
    omega (
      arith,
      ints,
      rest,
      own,
      pick m.sites pair.first (λ p. f k (g p)) is.first,
      pick m.sites pair.second (λ p. s k (g p)) is.second,
      sum-add m.sites (λ p. int_counted (eqb pair.first p) (f k (g p))) (λ p. int_counted (eqb pair.second p) (s k (g p))),
      sum-add m.sites (λ p. int_counted (eqb pair.first p) (f k (g p)) +ℤ int_counted (eqb pair.second p) (s k (g p))) (λ p. added_at f s pairs (suc k) p (g p)),
      sum_by-cons (pair_cost m g) pair pairs,
    )

pub weak_duality : WeakDuality
weak_duality m f s least is afforded under g labelled =
    omega (
      arith,
      ints,
      sum-le m.sites least (λ p. adjusted_cost m f s p (g p)) (λ p l. under p (g p) l (labelled p l)),
      sum-add m.sites (λ p. pos (m.data_cost p (g p))) (λ p. added_at f s m.pairs 0 p (g p)),
      sum-pos m.sites (λ p. m.data_cost p (g p)),
      messages-le m f s g m.pairs 0 labelled is afforded,
    )
