-- What two labels cost, in parts of a unit.
use Rattle.std.specs.Prelude.{◌≡◌, ℕ, ◌+◌, ◌*◌, ◌<◌, ◌≤◌, List, length, slice_index, min}
use Rattle.label_field.specs.Grids.{distance}
use Rattle.label_energies.specs.Energies.{Instance}
use Rattle.message_bound.specs.declared.costs.Slope.{Slope}
use Rattle.message_bound.specs.declared.costs.Form.{Form}
use Rattle.message_bound.specs.declared.costs.Form.TheVariants.{Linear, Square, Table}

-- costs are counted in so many parts of a unit
abbrev pub parts : ℕ
parts = 256

-- the list is the table of what two labels cost a pair of weight 1, in parts: a pair costs its
-- weight times that
abbrev pub AreSmoothCosts : Instance → ℕ → List ℕ → Type 0
AreSmoothCosts m labels costs = (a b weight : ℕ) → a < labels → b < labels
    → weight * slice_index costs (a * labels + b) ≡ parts * m.smooth_cost weight a b

-- the table has truncated linear costs
abbrev pub IsSlopeOf : ℕ → List ℕ → Slope → Type 0
IsSlopeOf labels costs slope = (a b : ℕ) → a < labels → b < labels
    → slice_index costs (a * labels + b) ≡ min (slope.step * distance a b) slope.most

-- the square of how far two labels are apart
abbrev pub square_apart : ℕ → ℕ → ℕ
square_apart a b = distance a b * distance a b

-- the table has truncated quadratic costs
abbrev pub IsQuadraticOf : ℕ → List ℕ → Slope → Type 0
IsQuadraticOf labels costs slope = (a b : ℕ) → a < labels → b < labels
    → slice_index costs (a * labels + b) ≡ min (slope.step * square_apart a b) slope.most

-- the table has costs of that form
abbrev pub IsOfForm : ℕ → List ℕ → Form → Type 0
IsOfForm labels costs (Linear slope) = IsSlopeOf labels costs slope
IsOfForm labels costs (Square slope) = IsQuadraticOf labels costs slope
IsOfForm labels costs Table = Unit {0}

-- no two of the numbers are further apart than their places allow
abbrev pub IsGentle : List ℕ → ℕ → ℕ → Type 0
IsGentle numbers step most = (a b : ℕ) → a < length numbers → b < length numbers
    → slice_index numbers b ≤ slice_index numbers a + min (step * distance a b) most

-- no number is more than `step` below the middle of the two beside it
abbrev pub IsLevel : List ℕ → ℕ → Type 0
IsLevel numbers step = (k : ℕ) → k + 2 < length numbers
    → slice_index numbers k + slice_index numbers (k + 2)
    ≤ 2 * slice_index numbers (k + 1) + 2 * step

-- of two parabolas over a label, which open downwards from the number of a place and from the next,
-- the next one's is not below
abbrev pub Rises : List ℕ → ℕ → ℕ → ℕ → Type 0
Rises numbers step label place =
    slice_index numbers place + step * (2 * place + 1)
    ≤ slice_index numbers (place + 1) + step * (2 * label)

-- over a label no place's parabola is above that of this one
abbrev pub IsHighestOver : List ℕ → ℕ → ℕ → ℕ → Type 0
IsHighestOver numbers step label place = (b : ℕ) → b < length numbers
    → slice_index numbers b + step * square_apart label place
    ≤ slice_index numbers place + step * square_apart label b
