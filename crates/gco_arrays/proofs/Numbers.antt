-- Numbers of 32 or of 64 bits, as they stand in a table.
use Rattle.std.proofs.Common.{◌≡◌, ◌⊎◌, ◌<◌, ◌∙◌, ℕ, ℤ, pos, List, length, map, get_or, sym, ap, subst}
use Rattle.std.proofs.lemmas.List.{get_or-map, length-map}
use Rattle.gco_arrays.specs.Calls.{AreCounted}

-- the number that an entry is
pub number_at : {N : Type 0} (value : N → ℤ) (xs : List N) (i : ℕ) (x : N) (z : ℤ) → i < length xs → x ≡ get_or xs i x
    → z ≡ value x → z ≡ get_or (map value xs) i (pos 0)
number_at value xs i x z inside is wide = wide ∙ ap value is ∙ sym (get_or-map value xs i x (pos 0) inside)

pub inside_numbers : {N : Type 0} (value : N → ℤ) (xs : List N) (i : ℕ) → i < length xs → i < length (map value xs)
inside_numbers value xs i inside = (let P : ℕ → Type 0 = λ n. i < n in subst P (sym (length-map xs value)) inside)

pub counted_numbers : {N : Type 0} (value : N → ℤ) (sites labels : ℕ) (costs smooth label_costs : List N)
    → AreCounted sites labels (length costs) (length smooth) (length label_costs)
    → AreCounted sites labels (length (map value costs)) (length (map value smooth)) (length (map value label_costs))
counted_numbers value sites labels costs smooth label_costs is =
    let P : ℕ → Type 0 = λ n. (n ≡ 0) ⊎ (n ≡ labels) in record {
      sizes = is.sizes;
      data_is = length-map costs value ∙ is.data_is;
      smooth_is = length-map smooth value ∙ is.smooth_is;
      costs_are = subst P (sym (length-map label_costs value)) is.costs_are;
    }
