-- Forced variables.
use Rattle.std.proofs.Common.{◌≡◌, ◌⊎◌, ℕ, ◌<◌, Bool, true, false, List, [], ◌∷◌, ℤ, pos, ◌-ℤ◌, ◌≤ℤ◌, ◌<ℤ◌, refl, sym, ap, ◌∙◌, inl, inr, subst, arith}
use Rattle.std.proofs.lemmas.Int.{ints}
use Rattle.std.proofs.lemmas.Bool.{cases_eq, cases_Bool}
use Rattle.move_energy.specs.Assignments.{set_bit, OnesWithin, IsSubmodular}
use Rattle.move_energy.proofs.Assignments.{set_at, set_other, set_same, value_same}
use Rattle.site_bounds.specs.Decisions.{Decision, with_decisions, Passes, HavePassed, IsForced, AreForced, IsSmallestLeast}

le_of : (y z : ℤ) → y ≡ z → y ≤ℤ z
le_of y z h = omega (arith, ints, h)

le_from_lt : (a b c : ℤ) → a <ℤ b → b ≡ c → a ≤ℤ c
le_from_lt a b c h k = omega (arith, ints, h, k)

le_along : (a b c : ℤ) → a ≤ℤ b → b ≡ c → a ≤ℤ c
le_along a b c h k = omega (arith, ints, h, k)

pub le_le : (a b c : ℤ) → a ≤ℤ b → b ≤ℤ c → a ≤ℤ c
le_le a b c h k = omega (arith, ints, h, k)

pub between : (a b : ℤ) → a ≤ℤ b → b ≤ℤ a → a ≡ b
between a b h k = omega (arith, ints, h, k)

never_lower : (a b c d : ℤ) → a <ℤ b → b ≡ c → c ≤ℤ d → d ≤ℤ a → ⊥
never_lower a b c d h k l n = omega (arith, ints, h, k, l, n)

-- a forced value is never higher
forced-le : (E : (ℕ → Bool) → ℤ) (ds : List Decision) (i : ℕ) (b now : Bool) → IsForced E ds i b → (x : ℕ → Bool) → with_decisions ds x i ≡ now
    → E (set_bit (with_decisions ds x) i b) ≤ℤ E (with_decisions ds x)
forced-le E ds i false true forced x is = le_along _ _ _ (forced x) (value_same E _ _ (set_same (with_decisions ds x) i true is))
forced-le E ds i false false forced x is = le_of _ _ (value_same E _ _ (set_same (with_decisions ds x) i false is))
forced-le E ds i true true forced x is = le_of _ _ (value_same E _ _ (set_same (with_decisions ds x) i true is))
forced-le E ds i true false forced x is = le_from_lt _ _ _ (forced x) (value_same E _ _ (set_same (with_decisions ds x) i false is))

-- nor are all of them together
pub put-le : (E : (ℕ → Bool) → ℤ) (ds : List Decision) (x : ℕ → Bool) → AreForced E ds → E (with_decisions ds x) ≤ℤ E x
put-le E [] x forced = le_of _ _ refl
put-le E (d ∷ ds) x forced = le_le _ _ _ (forced-le E ds d.variable d.value (with_decisions ds x d.variable) forced.1 x refl) (put-le E ds x forced.0)

-- a variable that is 1 by decision is 1 in every least assignment
pub put_ones : (E : (ℕ → Bool) → ℤ) (ds : List Decision) (y : ℕ → Bool) → AreForced E ds → ((z : ℕ → Bool) → E y ≤ℤ E z)
    → (i : ℕ) → with_decisions ds y i ≡ true → y i ≡ true
put_ones E [] y forced least i is = is
put_ones E (d ∷ ds) y forced least i is = elim (cases_eq i d.variable) [
  | inr other ↦ put_ones E ds y forced.0 least i (sym (set_other (with_decisions ds y) d.variable i d.value other) ∙ is)
  | inl same ↦
      let one : d.value ≡ true = sym (set_at (with_decisions ds y) d.variable i d.value same) ∙ is in
      let P : Bool → Type 0 = λ b. IsForced E ds d.variable b in
      let strict : IsForced E ds d.variable true = subst P one forced.1 in
      put_ones E ds y forced.0 least i (elim (cases_Bool (with_decisions ds y d.variable)) [
        | inl here ↦ ap (with_decisions ds y) same ∙ here
        | inr none ↦ absurd (never_lower _ _ _ _ (strict y) (value_same E _ _ (set_same (with_decisions ds y) d.variable false none)) (put-le E ds y forced.0)
            (least (set_bit (with_decisions ds y) d.variable true)))
      ])
]

both_same : (a b : Bool) → (a ≡ true → b ≡ true) → (b ≡ true → a ≡ true) → a ≡ b
both_same true b f g = sym (f refl)
both_same false true f g = g refl
both_same false false f g = refl

-- the least assignment with the fewest ones has the decided values
pub forced_least : (n : ℕ) (E : (ℕ → Bool) → ℤ) (ds : List Decision) (x : ℕ → Bool) (i : ℕ) → AreForced E ds → IsSmallestLeast n E x → i < n → with_decisions ds x i ≡ x i
forced_least n E ds x i forced least l =
    both_same (with_decisions ds x i) (x i) (put_ones E ds x forced least.least i)
    (least.smallest (with_decisions ds x) (between _ _ (put-le E ds x forced) (least.least (with_decisions ds x))) i l)

-- a variable is free or decided
pub cases_put : (ds : List Decision) (i : ℕ) → ((x : ℕ → Bool) → with_decisions ds x i ≡ x i) ⊎ ((b : Bool) × ((x : ℕ → Bool) → with_decisions ds x i ≡ b))
cases_put [] i = inl (λ x. refl)
cases_put (d ∷ ds) i = elim (cases_eq i d.variable) [
  | inl same ↦ inr (d.value, λ x. set_at (with_decisions ds x) d.variable i d.value same)
  | inr other ↦ elim (cases_put ds i) [
    | inl free ↦ inl (λ x. set_other (with_decisions ds x) d.variable i d.value other ∙ free x)
    | inr decided ↦ inr (decided.0, λ x. set_other (with_decisions ds x) d.variable i d.value other ∙ decided.1 x)
  ]
]

-- ---- the test

-- with the decisions put in, an assignment lies between all undecided at 0 and all at 1
above_zeros : (ds : List Decision) (x : ℕ → Bool) → OnesWithin (with_decisions ds (λ k. false)) (with_decisions ds x)
above_zeros ds x k one = elim (cases_put ds k) [
  | inl free ↦ absurd (let e = sym (free (λ i. false)) ∙ one in cc (e))
  | inr decided ↦ decided.1 x ∙ sym (decided.1 (λ i. false)) ∙ one
]

below_ones : (ds : List Decision) (x : ℕ → Bool) → OnesWithin (with_decisions ds x) (with_decisions ds (λ k. true))
below_ones ds x k one = elim (cases_put ds k) [
  | inl free ↦ free (λ i. true)
  | inr decided ↦ decided.1 (λ i. true) ∙ sym (decided.1 x) ∙ one
]

not_lower : (a b r : ℤ) → pos 0 ≤ℤ r → r ≤ℤ (a -ℤ b) → b ≤ℤ a
not_lower a b r h k = omega (arith, ints, h, k)

lower : (a b r : ℤ) → r <ℤ pos 0 → (a -ℤ b) ≤ℤ r → a <ℤ b
lower a b r h k = omega (arith, ints, h, k)

pub passes_forced : (E : (ℕ → Bool) → ℤ) (ds : List Decision) (i : ℕ) (b : Bool) → IsSubmodular E → Passes E ds i b → IsForced E ds i b
passes_forced E ds i false falls test = λ x. not_lower _ _ _ test (falls (with_decisions ds x) (with_decisions ds (λ k. true)) i (below_ones ds x))
passes_forced E ds i true falls test = λ x. lower _ _ _ test (falls (with_decisions ds (λ k. false)) (with_decisions ds x) i (above_zeros ds x))

pub passed_forced : (E : (ℕ → Bool) → ℤ) (ds : List Decision) → IsSubmodular E → HavePassed E ds → AreForced E ds
passed_forced E [] falls passed = tt
passed_forced E (d ∷ ds) falls passed = (passed_forced E ds falls passed.0, passes_forced E ds d.variable d.value falls passed.1)
