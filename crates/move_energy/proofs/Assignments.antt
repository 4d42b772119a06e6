-- Assignments with one variable set.
use Rattle.std.proofs.Common.{◌≡◌, ◌≢◌, ℕ, Bool, ℤ, sym, ap, ◌∙◌, inl, inr, arith}
use Rattle.std.proofs.lemmas.Bool.{cases_eq}
use Rattle.std.proofs.lemmas.Bool.Decides.{nat_tests}
use Rattle.move_energy.specs.Assignments.{set_bit}

pub set_at : (x : ℕ → Bool) (i k : ℕ) (b : Bool) → k ≡ i → set_bit x i b k ≡ b
set_at x i k b h = grind (arith, nat_tests)

pub set_other : (x : ℕ → Bool) (i k : ℕ) (b : Bool) → k ≢ i → set_bit x i b k ≡ x k
set_other x i k b h = grind (arith, nat_tests)

pub set_same : (x : ℕ → Bool) (i : ℕ) (b : Bool) → x i ≡ b → (k : ℕ) → set_bit x i b k ≡ x k
set_same x i b h k = elim (cases_eq k i) [
  | inl same ↦ set_at x i k b same ∙ sym h ∙ ap x (sym same)
  | inr other ↦ set_other x i k b other
]

pub value_same : (E : (ℕ → Bool) → ℤ) (x y : ℕ → Bool) → ((k : ℕ) → x k ≡ y k) → E x ≡ E y
value_same E x y h = ap E (λ j k. h k j)
