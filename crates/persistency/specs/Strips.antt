-- Variables closed in from both sides, strip by strip: what is 1 even with all others at 0 is 1 for
-- good, and what is 0 even with all others at 1 is 0 for good (Topkis 1978).
use Rattle.std.specs.Prelude.{ℕ, Bool, cond, List, [], ◌∷◌, ℤ}
use Rattle.std.specs.List.{All}
use Rattle.move_energy.specs.declared.choice.Choice.{Choice}
use Rattle.move_energy.specs.declared.choice.Choice.TheVariants.{Open, Zero, One}
use Rattle.site_bounds.specs.Decisions.{IsSmallestLeast}
use Rattle.persistency.specs.Fixing.{fixed_value, IsLeast}
use Rattle.persistency.specs.Agreeing.{or_else, choices_or}

-- a set of variables, and two assignments that bound what its variables are, from below and from
-- above
pub record Strip : Type 0 where
  pub set : ℕ → Bool
  pub lower : ℕ → Bool
  pub upper : ℕ → Bool

-- the choices, with each open variable outside the set fixed to this value
abbrev pub others_at : Choice → (ℕ → Bool) → (ℕ → Choice) → ℕ → Choice
others_at value set choice p = cond (set p) (choice p) (or_else (choice p) value)

-- the function of the set, with all others at 0, and with all others at 1
abbrev pub lower_value : ((ℕ → Bool) → ℤ) → (ℕ → Choice) → (ℕ → Bool) → (ℕ → Bool) → ℤ
lower_value E choice set = fixed_value E (others_at Zero set choice)

abbrev pub upper_value : ((ℕ → Bool) → ℤ) → (ℕ → Choice) → (ℕ → Bool) → (ℕ → Bool) → ℤ
upper_value E choice set = fixed_value E (others_at One set choice)

-- the bounds of the strip, as the choices are: the least assignment with the fewest ones where all
-- others are at 0, and one of the least where they are at 1
pub record IsStripBounded (n : ℕ) (E : (ℕ → Bool) → ℤ) (choice : ℕ → Choice)
    (strip : Strip) : Type 0 where
  pub lower : IsSmallestLeast n (lower_value E choice strip.set) strip.lower
  pub upper : IsLeast (upper_value E choice strip.set) strip.upper

-- what two bounds tell: what is 1 below is 1, what is 0 above is 0, and the rest stays open
abbrev pub choice_of_bounds : Bool → Bool → Choice
choice_of_bounds lower upper = cond lower One (cond upper Open Zero)

-- what a strip tells
abbrev pub told_by : Strip → ℕ → Choice
told_by strip p = cond (strip.set p) (choice_of_bounds (strip.lower p) (strip.upper p)) Open

-- the choices, with what the strips tell of the open variables
abbrev pub with_strips : (ℕ → Choice) → List Strip → ℕ → Choice
with_strips choice [] = choice
with_strips choice (strip ∷ strips) = choices_or (with_strips choice strips) (told_by strip)

-- the choices after batches of strips; the latest batch stands first
abbrev pub with_batches : (ℕ → Choice) → List (List Strip) → ℕ → Choice
with_batches choice [] = choice
with_batches choice (strips ∷ batches) = with_strips (with_batches choice batches) strips

-- the strips of each batch were bounded with the choices as they were at the batch's start
abbrev pub AreBatches : ℕ → ((ℕ → Bool) → ℤ) → (ℕ → Choice) → List (List Strip) → Type 0
AreBatches n E choice [] = Unit {0}
AreBatches n E choice (strips ∷ batches) =
    AreBatches n E choice batches × All (IsStripBounded n E (with_batches choice batches)) strips
