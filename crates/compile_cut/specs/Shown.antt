use Rattle.std.specs.Prelude.{◌≡◌, ℕ, ◌<◌, ◌≤◌, Bool, sum_by, ℤ, pos, ◌+ℤ◌, ◌≤ℤ◌}
use Rattle.pseudo_bool.specs.declared.term.Term.{Term}
use Rattle.pseudo_bool.specs.declared.term.Term.TheVariants.{One, Two, Three}
use Rattle.pseudo_bool.specs.Energies.{Energy, value_at}
use Rattle.flow_network.specs.Cut.{Network, capacity_of, LiesWithin}

-- the node of each variable is in the set exactly where the variable is 1: other nodes are free
abbrev pub Shows : ℕ → (ℕ → Bool) → (ℕ → Bool) → Type 0
Shows variables x side = (i : ℕ) → i < variables → side i ≡ x i

-- a function of more variables, hidden behind the first n: the least of its values at the sets that
-- are the same on these is another function's value, but for a fixed number
pub record Hides (n : ℕ) (value hiding : (ℕ → Bool) → ℤ) : Type 0 where
  pub offset : ℤ
  pub lower : (x : ℕ → Bool) → value x ≤ℤ (hiding x +ℤ offset)
  pub reached : (x : ℕ → Bool) → (y : ℕ → Bool) × Shows n x y × (hiding y +ℤ offset ≡ value x)

-- of all cuts that show x, one has this capacity, and none has a lower one
pub record IsLeastShown (net : Network) (variables : ℕ) (x : ℕ → Bool) (least : ℕ) : Type 0 where
  pub side : ℕ → Bool
  pub shows : Shows variables x side
  pub reached : capacity_of net side ≡ least
  pub lowest : (other : ℕ → Bool) → Shows variables x other → least ≤ capacity_of net other

-- every assignment's value is the least capacity of the cuts that show it, plus the constant
abbrev pub ShowsValues : Network → ℤ → Energy → Type 0
ShowsValues net constant e =
    (x : ℕ → Bool) → (least : ℕ) × IsLeastShown net e.variables x least
    × (value_at e x ≡ pos least +ℤ constant)

-- 1 for a term of three variables
abbrev pub three_digit : Term → ℕ
three_digit (One first table) = 0
three_digit (Two first second table) = 0
three_digit (Three first second third table) = 1

-- how many terms of three variables there are
abbrev pub three_count : Energy → ℕ
three_count e = sum_by three_digit e.terms

-- a least assignment, whose ones are among the ones of every least assignment
pub record IsSmallestLeastAssignment (e : Energy) (x : ℕ → Bool) : Type 0 where
  pub least : (y : ℕ → Bool) → value_at e x ≤ℤ value_at e y
  pub smallest : (y : ℕ → Bool) → value_at e y ≡ value_at e x → LiesWithin e.variables x y
