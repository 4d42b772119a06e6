-- Numbers that differ.
use Rattle.std.proofs.Common.{◌≡◌, ℕ, zero, suc, ◌<◌, ◌≤◌, refl, sym, ◌∙◌, inl, inr, arith, eqb}
use Rattle.std.proofs.lemmas.Bool.{cases_eq}
use Rattle.sums.specs.Sums.{sum_below, count_if}
use Rattle.sums.proofs.SumLemmas.{sum_below-le, sum_below-same, sum_below-swap, sum_below-pick, sum_below-zero, counted-other, counted-le}

ones : (n : ℕ) → sum_below n (λ i. 1) ≡ n
ones zero = refl
ones (suc n) = omega (arith, ones n)

-- a number is met once at most
once : (n i : ℕ) (g : ℕ → ℕ) → ((p q : ℕ) → p < n → q < n → g p ≡ g q → p ≡ q) → sum_below n (λ p. count_if (eqb (g p) i) 1) ≤ 1
once zero i g differ = omega arith
once (suc n) i g differ =
    let before = once n i g (λ p q lp lq. differ p q (omega (arith, lp)) (omega (arith, lq))) in
    elim (cases_eq (g n) i) [
      | inl same ↦
          let none : sum_below n (λ p. count_if (eqb (g p) i) 1) ≡ 0 =
          sum_below-same n (λ p. count_if (eqb (g p) i) 1) (λ p. 0) (λ p l.
          counted-other (g p) i 1 (λ e. absurd (omega (arith, l, differ p n (omega (arith, l)) (omega arith) (sym e ∙ sym same))))) ∙ sum_below-zero n in
          omega (arith, none, counted-le (eqb (g n) i) 1)
      | inr off ↦ omega (arith, before, counted-other (g n) i 1 (λ e. off (sym e)))
    ]

-- so there are at most as many as there are numbers below m
pub few_apart : (n m : ℕ) (g : ℕ → ℕ) → ((p : ℕ) → p < n → g p < m) → ((p q : ℕ) → p < n → q < n → g p ≡ g q → p ≡ q) → n ≤ m
few_apart n m g small differ =
    let picked = sum_below-same n (λ p. sum_below m (λ i. count_if (eqb (g p) i) 1)) (λ p. 1) (λ p l. sum_below-pick m (g p) (λ i. 1) (small p l)) in
    let turned = sum_below-swap n m (λ p i. count_if (eqb (g p) i) 1) in
    let each = sum_below-le m (λ i. sum_below n (λ p. count_if (eqb (g p) i) 1)) (λ i. 1) (λ i l. once n i g differ) in
    omega (arith, picked, turned, each, ones n, ones m)
