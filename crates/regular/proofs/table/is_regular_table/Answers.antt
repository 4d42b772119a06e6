use Rattle.std.proofs.Common.{arith, ◌≤◌, pos, ℤ, ◌≤ℤ◌, ◌+ℤ◌, unsigned_abs, w64, FitsSigned, to_z, of_z, IsTrue, ◌↔◌, rules}
use Rattle.std.proofs.lemmas.Int.{to_z-of_z}
use Rattle.sums.proofs.IntegerSumLemmas.{within_fits, abs-add}
use Rattle.pseudo_bool.specs.Energies.{entry}
use Rattle.regular.proofs.table.is_regular_table.Goals as goal
use lib.Signed.{le_z}

compares : (a b c d : ℤ) → FitsSigned w64 a → FitsSigned w64 b → FitsSigned w64 c → FitsSigned w64 d
    → FitsSigned w64 (a +ℤ d) → FitsSigned w64 (b +ℤ c)
    → IsTrue (le_z (to_z w64 (of_z w64 (to_z w64 (of_z w64 a) +ℤ to_z w64 (of_z w64 d))))
    (to_z w64 (of_z w64 (to_z w64 (of_z w64 b) +ℤ to_z w64 (of_z w64 c)))))
    ↔ ((a +ℤ d) ≤ℤ (b +ℤ c))
compares a b c d fa fb fc fd fad fbc = simp to_z-of_z (search rules)

one_fits : (z : ℤ) → unsigned_abs z ≤ 1000000000000000000 → FitsSigned w64 z
one_fits z h = within_fits 1000000000000000000 z h (omega arith)

two_fit : (y z : ℤ) → unsigned_abs y ≤ 1000000000000000000 → unsigned_abs z ≤ 1000000000000000000 → FitsSigned w64 (y +ℤ z)
two_fit y z h i = within_fits 2000000000000000000 (y +ℤ z) (omega (arith, abs-add y z)) (omega arith)

pub returns : goal.returns
returns x =
    let t = x.args.table.now in
    let a = x.requires 0 (pos 0) (omega arith) in
    let b = x.requires 1 (pos 0) (omega arith) in
    let c = x.requires 2 (pos 0) (omega arith) in
    let d = x.requires 3 (pos 0) (omega arith) in
    compares (entry t 0) (entry t 1) (entry t 2) (entry t 3)
    (one_fits (entry t 0) a) (one_fits (entry t 1) b) (one_fits (entry t 2) c) (one_fits (entry t 3) d)
    (two_fit (entry t 0) (entry t 3) a d) (two_fit (entry t 1) (entry t 2) b c)
