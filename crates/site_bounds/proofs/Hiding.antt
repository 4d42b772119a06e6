-- Variables that a function hides.
use Rattle.std.proofs.Common.{◌≡◌, ℕ, ◌≤◌, Bool, ℤ, ◌+ℤ◌, ◌≤ℤ◌, sym, ◌∙◌, arith}
use Rattle.std.proofs.lemmas.Int.{ints}
use Rattle.compile_cut.specs.Shown.{Hides}
use Rattle.site_bounds.specs.Decisions.{IsSmallestLeast}

carried : (ez fz fy ey o : ℤ) → ez ≤ℤ (fz +ℤ o) → fz ≤ℤ fy → fy +ℤ o ≡ ey → ez ≤ℤ ey
carried ez fz fy ey o h k l = omega (arith, ints, h, k, l)

level : (ez fz fy ey o : ℤ) → ez ≤ℤ (fz +ℤ o) → fz ≤ℤ fy → fy +ℤ o ≡ ey → ey ≡ ez → fy ≡ fz
level ez fz fy ey o h k l e = omega (arith, ints, h, k, l, e)

pub hidden_least : (n r : ℕ) (E F : (ℕ → Bool) → ℤ) (z : ℕ → Bool) → n ≤ r → Hides n E F → IsSmallestLeast r F z → IsSmallestLeast n E z
hidden_least n r E F z few hides best = record {
  least = λ x. (let shown = hides.reached x in carried (E z) (F z) (F shown.0) (E x) hides.offset (hides.lower z) (best.least shown.0) shown.2);
  smallest = λ x same k l one.
      let shown = hides.reached x in
      let equal = level (E z) (F z) (F shown.0) (E x) hides.offset (hides.lower z) (best.least shown.0) shown.2 same in
      sym (shown.1 k l) ∙ best.smallest shown.0 equal k (omega (arith, l, few)) one;
}
