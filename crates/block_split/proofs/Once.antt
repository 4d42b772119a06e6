-- Sums over places that differ.
use Rattle.std.proofs.Common.{◌≡◌, ℕ, zero, suc, ◌+◌, ◌<◌, ◌≤◌, List, length, get_or, sym, ◌∙◌, ap, inl, inr, arith, eqb, sum_by}
use Rattle.std.proofs.lemmas.Bool.{cases_eq}
use Rattle.sums.specs.Sums.{sum_below, count_if}
use Rattle.sums.proofs.SumLemmas.{sum_below-le, sum_below-same, sum_below-swap, sum_below-pick, sum_below-zero, counted-other, counted-le, sum_by-sum_below}

-- a place is met at most once
once : (n i z : ℕ) (g : ℕ → ℕ) → ((p q : ℕ) → p < n → q < n → g p ≡ g q → p ≡ q) → sum_below n (λ p. count_if (eqb (g p) i) z) ≤ z
once zero i z g differ = omega arith
once (suc n) i z g differ =
    let before = once n i z g (λ p q lp lq. differ p q (omega (arith, lp)) (omega (arith, lq))) in
    elim (cases_eq (g n) i) [
      | inl same ↦
          let none : sum_below n (λ p. count_if (eqb (g p) i) z) ≡ 0 =
          sum_below-same n (λ p. count_if (eqb (g p) i) z) (λ p. 0) (λ p l.
          counted-other (g p) i z (λ e. absurd (omega (arith, l, differ p n (omega (arith, l)) (omega arith) (sym e ∙ sym same))))) ∙ sum_below-zero n in
          omega (arith, none, counted-le (eqb (g n) i) z)
      | inr off ↦ omega (arith, before, counted-other (g n) i z (λ e. off (sym e)))
    ]

-- the sum of f over n places that differ is at most that over all m
pub sum_once : (n m : ℕ) (f g : ℕ → ℕ) → ((p : ℕ) → p < n → g p < m) → ((p q : ℕ) → p < n → q < n → g p ≡ g q → p ≡ q)
    → sum_below n (λ p. f (g p)) ≤ sum_below m f
sum_once n m f g small differ =
    let picked = sum_below-same n (λ p. sum_below m (λ i. count_if (eqb (g p) i) (f i))) (λ p. f (g p)) (λ p l. sum_below-pick m (g p) f (small p l)) in
    let turned = sum_below-swap n m (λ p i. count_if (eqb (g p) i) (f i)) in
    let each = sum_below-le m (λ i. sum_below n (λ p. count_if (eqb (g p) i) (f i))) f (λ i l. once n i (f i) g differ) in
    omega (arith, picked, turned, each)

-- of a list whose elements differ
pub sum_of_once : (xs : List ℕ) (m : ℕ) (f : ℕ → ℕ) → ((p : ℕ) → p < length xs → get_or xs p 0 < m)
    → ((p q : ℕ) → p < length xs → q < length xs → get_or xs p 0 ≡ get_or xs q 0 → p ≡ q) → sum_by f xs ≤ sum_below m f
sum_of_once xs m f small differ =
    omega (arith, sum_by-sum_below f xs 0, sum_once (length xs) m f (λ p. get_or xs p 0) small differ)

none : (m : ℕ) → m + 0 ≡ m
none m = omega arith

one : (m k : ℕ) → m + suc k ≡ suc (m + k)
one m k = omega arith

-- the sum over m and k more
pub sum_split : (m k : ℕ) (f : ℕ → ℕ) → sum_below (m + k) f ≡ sum_below m f + sum_below k (λ i. f (m + i))
sum_split m zero f = ap (λ n. sum_below n f) (none m) ∙ omega arith
sum_split m (suc k) f = ap (λ n. sum_below n f) (one m k) ∙ omega (arith, sum_split m k f)
