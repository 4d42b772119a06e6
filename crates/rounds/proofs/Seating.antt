-- Lists of seats, one seat after another.
use Rattle.std.proofs.Common.{ℕ, zero, suc, ◌<◌, List, [], ◌∷◌, ◌++◌, length, get_or, arith}

pub each_more : {X : Type 0} (P : ℕ → X → Type 0) (xs : List X) (x : X) → ((i : ℕ) (d : X) → i < length xs → P i (get_or xs i d)) → P (length xs) x
    → (i : ℕ) (d : X) → i < length (xs ++ x ∷ []) → P i (get_or (xs ++ x ∷ []) i d)
each_more P [] x before last zero d low = last
each_more P [] x before last (suc i) d low = absurd (omega (arith, low))
each_more P (y ∷ ys) x before last zero d low = before zero d (omega arith)
each_more P (y ∷ ys) x before last (suc i) d low = each_more (λ j. P (suc j)) ys x (λ j e less. before (suc j) e (omega (arith, less))) last i d (omega (arith, low))
