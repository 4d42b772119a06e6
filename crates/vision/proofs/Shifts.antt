-- What a shift costs, by how many columns lie to the left of each pixel.
use Rattle.std.proofs.Common.{◌≡◌, ℕ, ◌-◌, ◌*◌, ◌<◌, ◌≤◌, List, length, min, nat_lt, if◌then◌else◌, ℤ, pos, sym, ap, arith, ◌∙◌}
use Rattle.std.proofs.lemmas.Bool.{ltb-true, lt-ltb, ltb_from_iff}
use Rattle.label_field.specs.Grids.{column, distance}
use Rattle.pgm_image.specs.Picture.{Picture, IsPicture}
use Rattle.vision.specs.Problems.{AreColumns, cost_by_columns, sample, shift_cost}

-- a shift is below 256, so it is as much as what is told of the columns
same_columns : (c shift : ℕ) → shift < 256 → nat_lt (min c 255) shift ≡ nat_lt c shift
same_columns c shift l =
    ltb_from_iff ((λ t. omega (arith, l, ltb-true (min c 255) shift t)), (λ h. lt-ltb (min c 255) shift (omega (arith, l, h))))

-- so the cost is that of the shift
pub columns_tell : (cap : ℕ) (left right : Picture) (columns here there : List ℕ) (site shift : ℕ)
    → AreColumns left.width here columns → here ≡ left.samples → there ≡ right.samples → site < length here → shift < 256
    → cost_by_columns cap columns here there site shift ≡ shift_cost cap left right site shift
columns_tell cap left right columns here there site shift told is are inside small =
    let same = ap (λ (c : ℕ). nat_lt c shift) (told.each site inside) ∙ same_columns (column left.width site) shift small in
    rw (is, are) (ap (λ t. if t then cap else min (distance (sample left site) (sample right (site - shift))) cap) same)

-- what a closure answers that asks the columns is what the shifts cost
pub told_cost : (cap w sites labels : ℕ) (left right : Picture) (columns cs here there : List ℕ) → IsPicture left
    → w ≡ left.width → sites ≡ left.width * left.height → labels ≤ 256 → AreColumns w here columns → cs ≡ columns
    → here ≡ left.samples → there ≡ right.samples → (a b : ℕ) (z : ℤ) → a < sites → b < labels
    → z ≡ pos (cost_by_columns cap cs here there a b) → z ≡ pos (shift_cost cap left right a b)
told_cost cap w sites labels left right columns cs here there valid wide all few told same is are a b z la lb answer =
    let inside : a < length here = omega (arith, la, all, valid.3, ap length is) in
    answer ∙ ap (λ (cost : ℕ). pos cost) (columns_tell cap left right cs here there a b (rw (sym wide, same) told) is are inside (omega (arith, lb, few)))
