-- An element at a place.
use Rattle.std.proofs.Common.{ℕ, ◌<◌, List, [], ◌∷◌, length, arith}

pub at_place : {X : Type 0} → (xs : List X) (k : ℕ) → k < length xs → X
at_place [] k below = absurd (omega arith)
at_place (x ∷ xs) k below = x
