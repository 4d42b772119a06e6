-- What is left, and the whole.
use Rattle.std.proofs.Common.{◌≡◌, ℕ, ◌<◌, Bool, List, ℤ, ◌+ℤ◌, ◌≤ℤ◌, sym, ap, ◌∙◌, inl, inr, arith}
use Rattle.std.proofs.lemmas.Int.{ints}
use Rattle.move_energy.specs.Assignments.{IsOver}
use Rattle.site_bounds.specs.Decisions.{Decision, with_decisions, AreForced, IsSmallestLeast, IsRest}
use Rattle.site_bounds.proofs.Putting.{put-le, put_ones, cases_put}

-- an assignment of what is left, put together with the decisions, is what the decisions make of the
-- whole assignment
taken : (n : ℕ) (E : (ℕ → Bool) → ℤ) (ds : List Decision) (r : ℕ) (R : (ℕ → Bool) → ℤ) (number variable : ℕ → ℕ) (y : ℕ → Bool)
    → IsRest n E ds r R number variable → (i : ℕ) → i < n → with_decisions ds (λ k. y (variable (number k))) i ≡ with_decisions ds y i
taken n E ds r R number variable y is i l = elim (cases_put ds i) [
  | inl free ↦ free (λ k. y (variable (number k))) ∙ ap y ((is.covers i l free).1) ∙ sym (free y)
  | inr decided ↦ decided.1 (λ k. y (variable (number k))) ∙ sym (decided.1 y)
]

rest_value : (n : ℕ) (E : (ℕ → Bool) → ℤ) (ds : List Decision) (r : ℕ) (R : (ℕ → Bool) → ℤ) (number variable : ℕ → ℕ) (y : ℕ → Bool)
    → IsOver n E → (is : IsRest n E ds r R number variable) → R (λ k. y (variable k)) +ℤ is.offset ≡ E (with_decisions ds y)
rest_value n E ds r R number variable y over is =
    is.value (λ k. y (variable k)) ∙ over (with_decisions ds (λ k. y (variable (number k)))) (with_decisions ds y) (taken n E ds r R number variable y is)

carried : (a b c d e o : ℤ) → a +ℤ o ≡ c → b +ℤ o ≡ d → a ≤ℤ b → d ≤ℤ e → c ≤ℤ e
carried a b c d e o p q r s = omega (arith, ints, p, q, r, s)

level : (a b c d e o : ℤ) → a +ℤ o ≡ c → b +ℤ o ≡ d → a ≤ℤ b → d ≤ℤ e → e ≡ c → b ≡ a
level a b c d e o p q r s t = omega (arith, ints, p, q, r, s, t)

least_all : (E : (ℕ → Bool) → ℤ) (x y : ℕ → Bool) → ((z : ℕ → Bool) → E x ≤ℤ E z) → E y ≡ E x → (z : ℕ → Bool) → E y ≤ℤ E z
least_all E x y least same z = (let h = least z in omega (arith, ints, h, same))

pub rest_least : (n : ℕ) (E : (ℕ → Bool) → ℤ) (ds : List Decision) (r : ℕ) (R : (ℕ → Bool) → ℤ) (number variable : ℕ → ℕ) (z : ℕ → Bool)
    → IsOver n E → AreForced E ds → IsRest n E ds r R number variable → IsSmallestLeast r R z → IsSmallestLeast n E (with_decisions ds (λ i. z (number i)))
rest_least n E ds r R number variable z over forced is best =
    let own = is.value z in
    let least : (y : ℕ → Bool) → E (with_decisions ds (λ i. z (number i))) ≤ℤ E y =
    λ y. carried _ _ _ _ _ is.offset own (rest_value n E ds r R number variable y over is) (best.least (λ k. y (variable k))) (put-le E ds y forced) in
    record {
      least = least;
      smallest = λ y same i l one.
          let all = least_all E (with_decisions ds (λ k. z (number k))) y least same in
          elim (cases_put ds i) [
            | inr decided ↦ put_ones E ds y forced all i (decided.1 y ∙ sym (decided.1 (λ k. z (number k))) ∙ one)
            | inl free ↦
                let here = is.covers i l free in
                let equal = level _ _ _ _ _ is.offset own (rest_value n E ds r R number variable y over is) (best.least (λ k. y (variable k))) (put-le E ds y forced) same in
                ap y (sym here.1) ∙ best.smallest (λ k. y (variable k)) equal (number i) here.0 (sym (free (λ k. z (number k))) ∙ one)
          ];
    }
