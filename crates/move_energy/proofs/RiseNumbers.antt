-- Sums and differences of costs, as the machine counts them.
use Rattle.std.proofs.Common.{◌≡◌, ℕ, ◌≤◌, ℤ, pos, ◌-ℤ◌, unsigned_abs, w64, FitsSigned, to_z, of_z, lit<, ap, arith}
use Rattle.std.proofs.lemmas.Int.{ints, to_z-of_z}
use Rattle.sums.proofs.IntegerSumLemmas.{within_fits}
use Rattle.cost_store.specs.Promises.{IsCost}

pub difference_is : (y z a b : ℤ) → y ≡ a → z ≡ b → IsCost (pos 10000000) y → IsCost (pos 10000000) z
    → to_z w64 (of_z w64 (to_z w64 (of_z w64 y) -ℤ to_z w64 (of_z w64 z))) ≡ a -ℤ b
difference_is y z a b p q k l = omega (arith, ints, p, q, k.0, k.1, l.0, l.1)

-- a number in range, as the machine passes it on
pub passed_on : (z : ℤ) → unsigned_abs z ≤ 20000000 → to_z w64 (of_z w64 z) ≡ z
passed_on z h = to_z-of_z w64 z (within_fits 20000000 z h (lit< tt))

pub passed_range : (z : ℤ) (k : ℕ) → k ≤ 20000000 → unsigned_abs z ≤ k → unsigned_abs (to_z w64 (of_z w64 z)) ≤ k
passed_range z k l h = (let e = ap unsigned_abs (passed_on z (omega (arith, l, h))) in omega (arith, e, h))

small_difference : (y z : ℤ) → IsCost (pos 10000000) y → IsCost (pos 10000000) z → unsigned_abs (y -ℤ z) ≤ 10000000
small_difference y z k l = omega (arith, ints, k.0, k.1, l.0, l.1)

pub cost_passed : (y : ℤ) → IsCost (pos 10000000) y → to_z w64 (of_z w64 y) ≡ y
cost_passed y k = omega (arith, ints, k.0, k.1)

pub difference_fits_costs : (y z : ℤ) → IsCost (pos 10000000) y → IsCost (pos 10000000) z
    → FitsSigned w64 (to_z w64 (of_z w64 y) -ℤ to_z w64 (of_z w64 z))
    × (to_z w64 (of_z w64 (to_z w64 (of_z w64 y) -ℤ to_z w64 (of_z w64 z))) ≡ y -ℤ z)
    × (unsigned_abs (to_z w64 (of_z w64 (to_z w64 (of_z w64 y) -ℤ to_z w64 (of_z w64 z)))) ≤ 10000000)
difference_fits_costs y z k l =
    let small = small_difference y z k l in
    let fits = within_fits 10000000 (y -ℤ z) small (lit< tt) in
    let same = to_z-of_z w64 (y -ℤ z) fits in
    rw (cost_passed y k, cost_passed z l) (fits, same, rw same small)
