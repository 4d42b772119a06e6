-- Tables that are copied number by number.
use Rattle.std.proofs.Common.{◌≡◌, ℕ, ◌+◌, ◌<◌, ◌≤◌, List, [], ◌∷◌, ◌++◌, pos, length, take, set, ℤ, unsigned_abs, w32, w64, FitsSigned, to_z, of_z, arith, sym, ap, ◌∙◌}
use Rattle.std.proofs.Math.ListN.{length-set}
use Rattle.std.proofs.lemmas.Int.{ints, to_z-of_z}
use Rattle.std.proofs.lemmas.List.{take_all, take_more, take_more_set}
use Rattle.sums.proofs.IntegerSumLemmas.{within_fits}
use Rattle.pseudo_bool.specs.Energies.{entry}

-- a number of a table, passed on and kept in 32 bits
pub kept_is : (z : ℤ) → unsigned_abs z ≤ 1000000000 → to_z w32 (of_z w32 (to_z w64 (of_z w64 z))) ≡ z
kept_is z h =
    let wide : FitsSigned w64 z = within_fits 1000000000 z h (omega arith) in
    let narrow : FitsSigned w32 z = record { sfits = grind (arith, ints) } in
    simp to_z-of_z

-- one number more
pub copied : (copy table : List ℤ) (i : ℕ) (z : ℤ) → i < length table → length copy ≡ length table → take i copy ≡ take i table
    → z ≡ entry table i → (length (set copy i z) ≡ length table) × (take (i + 1) (set copy i z) ≡ take (i + 1) table)
copied copy table i z l len same is = (
  length-set copy i z ∙ len,
  take_more_set copy i z (omega arith) ∙ ap (λ xs. xs ++ z ∷ []) same ∙ ap (λ y. take i table ++ y ∷ []) is ∙ sym (take_more table i (pos 0) l),
)

-- all of them
pub all_copied : (copy table : List ℤ) (i : ℕ) → length table ≤ i → length copy ≡ length table → take i copy ≡ take i table → copy ≡ table
all_copied copy table i l len same = sym (take_all i copy (omega arith)) ∙ same ∙ take_all i table l
