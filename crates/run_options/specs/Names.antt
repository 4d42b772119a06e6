-- What goes by a name.
use Rattle.std.specs.Prelude.{ℕ, List, bytes_eq, Option, Some, None, codes, if◌then◌else◌}
use Rattle.run_options.specs.declared.shape.Shape.{Shape}
use Rattle.run_options.specs.declared.shape.Shape.TheVariants.{Potts, Linear, Quadratic}

-- the shape of a name
abbrev pub shape_named : List ℕ → Option Shape
shape_named name =
    if bytes_eq name (codes "potts") then Some Potts
    else if bytes_eq name (codes "linear") then Some Linear
    else if bytes_eq name (codes "quadratic") then Some Quadratic
    else None
