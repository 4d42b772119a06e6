-- By how much an energy rises, as the machine counts it.
use Rattle.std.proofs.Common.{◌≡◌, ℕ, ◌+◌, ◌*◌, ◌<◌, ◌≤◌, Bool, false, IsTrue, ap, ◌∙◌, arith, inl, inr, ℤ, pos, unsigned_abs, ◌+ℤ◌, ◌-ℤ◌, ◌<ℤ◌, w64, to_z, of_z, lit<}
use Rattle.std.proofs.lemmas.Bool.{cases_lt}
use Rattle.std.proofs.lemmas.Int.{ints, to_z-of_z}
use Rattle.sums.proofs.IntegerSumLemmas.{within_fits, abs-add, abs-sub}
use Rattle.move_energy.proofs.SiteSums.{sum_passed}
use Rattle.kept_labels.proofs.Rising.{rise_adds}

-- how large the sum so far is at most, with one rise more
pub rise_within : (y r : ℤ) (i j k : ℕ) → unsigned_abs y ≤ 10000000 * j → unsigned_abs r ≤ 10000000 * k → j ≤ 4294967296 → k ≤ 4294967296 → i ≡ j + k
    → unsigned_abs (to_z w64 (of_z w64 (y +ℤ to_z w64 (of_z w64 r)))) ≤ 10000000 * i
rise_within y r i j k h l few small is =
    let e = ap unsigned_abs (rise_adds y r j k h l few small) in
    omega (arith, e, abs-add y r, h, l, is)

-- a rise, counted the other way
pub negated : (r : ℤ) (k : ℕ) → unsigned_abs r ≤ 10000000 + 10000000 * k → k ≤ 8388608 → to_z w64 (of_z w64 (pos 0 -ℤ to_z w64 (of_z w64 r))) ≡ pos 0 -ℤ r
negated r k within few =
    ap (λ z. to_z w64 (of_z w64 (pos 0 -ℤ z))) (sum_passed r k within few) ∙ sum_passed (pos 0 -ℤ r) k (omega (arith, abs-sub (pos 0) r, within)) few

-- a rise that is passed on
pub whole : (r : ℤ) → unsigned_abs r ≤ 9223372036854775807 → to_z w64 (of_z w64 r) ≡ r
whole r small = to_z-of_z w64 r (within_fits 9223372036854775807 r small (lit< tt))

-- where it is below 0 the energy falls
falls : (x r : ℤ) (g f : ℕ) → x ≡ r → r ≡ pos g -ℤ pos f → x <ℤ pos 0 → g < f
falls x r g f same is low = omega (arith, ints, same, is, low)

fallen : (x r : ℤ) (g f : ℕ) → x ≡ r → r ≡ pos g -ℤ pos f → g < f → x <ℤ pos 0
fallen x r g f same is low = omega (arith, ints, same, is, low)

pub lower_by : (b : Bool) (x r : ℤ) (g f : ℕ) → x ≡ r → r ≡ pos g -ℤ pos f → (IsTrue b → x <ℤ pos 0) × (x <ℤ pos 0 → IsTrue b) → (IsTrue b → g < f) × (g < f → IsTrue b)
lower_by b x r g f same is told = ((λ yes. falls x r g f same is (told.0 yes)), λ low. told.1 (fallen x r g f same is low))

-- a test that said no
pub not_lower : (a b : ℕ) (t : Bool) → (a < b → IsTrue t) → t ≡ false → b ≤ a
not_lower a b t told off = elim (cases_lt a b) [
  | inl low ↦ (let yes = told low in absurd (cc (yes, off)))
  | inr high ↦ high
]
