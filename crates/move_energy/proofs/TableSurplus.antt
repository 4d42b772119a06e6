-- The surplus of a table, as the machine counts it.
use Rattle.std.proofs.Common.{◌≡◌, ◌≤◌, ℤ, pos, ◌+ℤ◌, ◌-ℤ◌, unsigned_abs, w64, FitsSigned, to_z, of_z, lit<, arith}
use Rattle.std.proofs.lemmas.Int.{ints}
use Rattle.sums.proofs.IntegerSumLemmas.{within_fits}
use Rattle.cost_store.specs.Promises.{IsCost}

sum_is : (y z : ℤ) → IsCost (pos 10000000) y → IsCost (pos 10000000) z
    → to_z w64 (of_z w64 (to_z w64 (of_z w64 y) +ℤ to_z w64 (of_z w64 z))) ≡ y +ℤ z
sum_is y z k l = omega (arith, ints, k.0, k.1, l.0, l.1)

wide_difference : (y z : ℤ) → IsCost (pos 20000000) y → IsCost (pos 20000000) z
    → (to_z w64 (of_z w64 (y -ℤ z)) ≡ y -ℤ z) × (unsigned_abs (y -ℤ z) ≤ 20000000)
wide_difference y z k l = (omega (arith, ints, k.0, k.1, l.0, l.1), omega (arith, ints, k.0, k.1, l.0, l.1))

difference_fits : (y z : ℤ) → IsCost (pos 20000000) y → IsCost (pos 20000000) z → FitsSigned w64 (y -ℤ z)
difference_fits y z k l = within_fits 20000000 (y -ℤ z) ((wide_difference y z k l).1) (lit< tt)

wider : (y z : ℤ) → IsCost (pos 10000000) y → IsCost (pos 10000000) z → IsCost (pos 20000000) (y +ℤ z)
wider y z k l = (omega (arith, ints, k.0, l.0), omega (arith, ints, k.1, l.1))

abbrev pub counted_surplus : ℤ → ℤ → ℤ → ℤ → ℤ
counted_surplus a b c d =
    to_z w64 (of_z w64 (to_z w64 (of_z w64 b) +ℤ to_z w64 (of_z w64 c))) -ℤ to_z w64 (of_z w64 (to_z w64 (of_z w64 a) +ℤ to_z w64 (of_z w64 d)))

pub surplus_fits : (a b c d : ℤ) → IsCost (pos 10000000) a → IsCost (pos 10000000) b → IsCost (pos 10000000) c → IsCost (pos 10000000) d
    → FitsSigned w64 (counted_surplus a b c d)
surplus_fits a b c d p q r s = rw (sum_is b c q r, sum_is a d p s) (difference_fits (b +ℤ c) (a +ℤ d) (wider b c q r) (wider a d p s))

pub surplus_is : (a b c d : ℤ) → IsCost (pos 10000000) a → IsCost (pos 10000000) b → IsCost (pos 10000000) c → IsCost (pos 10000000) d
    → (to_z w64 (of_z w64 (counted_surplus a b c d)) ≡ (b +ℤ c) -ℤ (a +ℤ d)) × (unsigned_abs (to_z w64 (of_z w64 (counted_surplus a b c d))) ≤ 20000000)
surplus_is a b c d p q r s =
    let wide = wide_difference (b +ℤ c) (a +ℤ d) (wider b c q r) (wider a d p s) in
    rw (sum_is b c q r, sum_is a d p s) (wide.0, rw (wide.0) (wide.1))
