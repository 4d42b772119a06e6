-- Tables as constants, weights and arcs, and what the machine's numbers give.
use Rattle.std.proofs.Common.{◌≡◌, ℕ, ◌+◌, ◌*◌, ◌≤◌, Bool, true, false, not, ◌&&◌, List, ℤ, pos, ◌+ℤ◌, ◌-ℤ◌, neg_ℤ, unsigned_abs, w64, FitsSigned, to_z, of_z, arith, ◌∙◌}
use Rattle.std.proofs.lemmas.Int.{ints, to_z-of_z}
use Rattle.sums.specs.Sums.{count_if}
use Rattle.sums.specs.IntegerSums.{int_counted}
use Rattle.sums.proofs.IntegerSumLemmas.{within_fits, add_is, abs-add, abs-sub}
use Rattle.pseudo_bool.specs.Energies.{entry, digit}
use Rattle.regular.specs.Regularity.{IsRegularTable}

pub one_parts : (table : List ℤ) (k w : ℤ) (b : Bool) → k ≡ entry table 0 → w ≡ entry table 1 -ℤ entry table 0
    → entry table (digit b) ≡ k +ℤ int_counted b w
one_parts table k w true hk hw = omega (arith, ints)
one_parts table k w false hk hw = omega (arith, ints)

pub pair_parts : (table : List ℤ) (k f s : ℤ) (g : ℕ) (b c : Bool) → k ≡ entry table 0 → f ≡ entry table 2 -ℤ entry table 0
    → s ≡ entry table 3 -ℤ entry table 2 → pos g ≡ entry table 1 +ℤ entry table 2 -ℤ entry table 0 -ℤ entry table 3
    → entry table (2 * digit b + digit c) ≡ k +ℤ int_counted b f +ℤ int_counted c s +ℤ pos (count_if (c && not b) g)
pair_parts table k f s g true true hk hf hs hg = omega (arith, ints)
pair_parts table k f s g true false hk hf hs hg = omega (arith, ints)
pair_parts table k f s g false true hk hf hs hg = omega (arith, ints)
pair_parts table k f s g false false hk hf hs hg = omega (arith, ints)

-- what an arc of a regular table carries
pub arc_is : (table : List ℤ) (g : ℤ) → IsRegularTable table → g ≡ entry table 1 +ℤ entry table 2 -ℤ entry table 0 -ℤ entry table 3
    → pos (unsigned_abs g) ≡ g
arc_is table g r e = omega (arith, ints, r, e)

-- a number of the machine as it is passed on
pub passed_is : (z : ℤ) → unsigned_abs z ≤ 1000000000000000000 → to_z w64 (of_z w64 z) ≡ z
passed_is z h = to_z-of_z w64 z (within_fits 1000000000000000000 z h (omega arith))

-- a number of the machine with its sign turned
pub minus_is : (z : ℤ) → unsigned_abs z ≤ 1000000000000000000 → to_z w64 (of_z w64 (pos 0 -ℤ to_z w64 (of_z w64 z))) ≡ neg_ℤ z
minus_is z h =
    let turned : unsigned_abs (pos 0 -ℤ z) ≤ 1000000000000000000 = omega (arith, abs-sub (pos 0) z) in
    let is : to_z w64 (of_z w64 z) ≡ z = passed_is z h in
    rw is (passed_is (pos 0 -ℤ z) turned ∙ omega (arith, ints))

-- the numbers added up so far
pub constant_is : (y z : ℤ) → unsigned_abs y ≤ 1000000000000000000 → unsigned_abs z ≤ 1000000000000000000
    → to_z w64 (of_z w64 (to_z w64 (of_z w64 y) +ℤ to_z w64 (of_z w64 z))) ≡ y +ℤ z
constant_is y z hy hz =
    add_is y z (within_fits 1000000000000000000 y hy (omega arith)) (within_fits 1000000000000000000 z hz (omega arith))
    (within_fits 2000000000000000000 (y +ℤ z) (omega (arith, abs-add y z)) (omega arith))

nested : (a b c d : ℤ) → FitsSigned w64 a → FitsSigned w64 b → FitsSigned w64 c → FitsSigned w64 d
    → FitsSigned w64 (a +ℤ b) → FitsSigned w64 (c +ℤ d) → FitsSigned w64 (a +ℤ b -ℤ (c +ℤ d))
    → to_z w64 (of_z w64 (to_z w64 (of_z w64 (to_z w64 (of_z w64 a) +ℤ to_z w64 (of_z w64 b))) -ℤ to_z w64 (of_z w64 (to_z w64 (of_z w64 c) +ℤ to_z w64 (of_z w64 d)))))
    ≡ a +ℤ b -ℤ (c +ℤ d)
nested a b c d fa fb fc fd fab fcd f = simp to_z-of_z

pub balance_is : (a b c d : ℤ) → unsigned_abs a ≤ 1000000000 → unsigned_abs b ≤ 1000000000 → unsigned_abs c ≤ 1000000000 → unsigned_abs d ≤ 1000000000
    → to_z w64 (of_z w64 (to_z w64 (of_z w64 (to_z w64 (of_z w64 a) +ℤ to_z w64 (of_z w64 b))) -ℤ to_z w64 (of_z w64 (to_z w64 (of_z w64 c) +ℤ to_z w64 (of_z w64 d)))))
    ≡ a +ℤ b -ℤ c -ℤ d
balance_is a b c d ha hb hc hd =
    let ab : unsigned_abs (a +ℤ b) ≤ 2000000000 = omega (arith, abs-add a b) in
    let cd : unsigned_abs (c +ℤ d) ≤ 2000000000 = omega (arith, abs-add c d) in
    let all : unsigned_abs (a +ℤ b -ℤ (c +ℤ d)) ≤ 4000000000 = omega (arith, abs-sub (a +ℤ b) (c +ℤ d)) in
    nested a b c d
    (within_fits 1000000000 a ha (omega arith)) (within_fits 1000000000 b hb (omega arith))
    (within_fits 1000000000 c hc (omega arith)) (within_fits 1000000000 d hd (omega arith))
    (within_fits 2000000000 (a +ℤ b) ab (omega arith)) (within_fits 2000000000 (c +ℤ d) cd (omega arith))
    (within_fits 4000000000 (a +ℤ b -ℤ (c +ℤ d)) all (omega arith))
    ∙ omega (arith, ints)
