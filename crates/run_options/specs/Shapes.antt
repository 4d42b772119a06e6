-- The costs of two labels that go by a name.
use Rattle.std.specs.Prelude.{ℕ, ℤ, pos, ◌*◌, ◌==◌, min, List, map, if◌then◌else◌}
use Rattle.std.specs.List.{flat_map, range_with_len}
use Rattle.label_field.specs.Grids.{distance}
use Rattle.run_options.specs.declared.shape.Shape.{Shape}
use Rattle.run_options.specs.declared.shape.Shape.TheVariants.{Potts, Linear, Quadratic}

-- the cost of two labels, where the costs by distance are cut off at the most
abbrev pub shape_cost : Shape → ℕ → ℕ → ℕ → ℕ
shape_cost Potts most a b = if a == b then 0 else 1
shape_cost Linear most a b = min (distance a b) most
shape_cost Quadratic most a b = min (distance a b * distance a b) most

-- the costs of a label beside each of k labels, and of each beside each
abbrev pub shape_row : Shape → ℕ → ℕ → ℕ → List ℤ
shape_row shape k most a = map (λ b. pos (shape_cost shape most a b)) (range_with_len 0 k)

abbrev pub shape_table : Shape → ℕ → ℕ → List ℤ
shape_table shape k most = flat_map (shape_row shape k most) (range_with_len 0 k)
