-- Entries of the tables of a call.
use Rattle.std.proofs.Common.{◌≡◌, ℕ, ◌+◌, ◌*◌, ◌<◌, List, length, All, ℤ, pos, negsuc, ◌≤ℤ◌, unsigned_abs, refl, ◌∙◌, arith}
use Rattle.std.proofs.lemmas.Int.{ints}
use Rattle.std.proofs.lemmas.Nat.{mul-add-lt}
use Rattle.std.proofs.Math.Nat.{mul_comm}
use Rattle.cost_store.specs.Promises.{IsCost, cost_in, entry_at}

pub place_in : (a b k n len : ℕ) → a < n → b < k → len ≡ n * k → a * k + b < len
place_in a b k n len la lb size = omega (arith, mul-add-lt a k b n la lb, mul_comm n k, size)

not_below : (z : ℤ) → pos 0 ≤ℤ z → z ≡ pos (unsigned_abs z)
not_below (pos n) h = refl
not_below (negsuc n) h = absurd (omega (arith, ints, h))

-- what is the entry of a table of costs is the cost there
pub cost_of_entry : (most : ℤ) (table : List ℤ) (n k : ℕ) → length table ≡ n * k → All (IsCost most) table
    → (a b : ℕ) → a < n → b < k → (z : ℤ) → z ≡ entry_at k table a b → z ≡ pos (cost_in k table a b)
cost_of_entry most table n k size costs a b la lb z is =
    is ∙ not_below (entry_at k table a b) (costs (a * k + b) (pos 0) (place_in a b k n (length table) la lb size)).0
