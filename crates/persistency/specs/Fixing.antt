-- A function of yes-no variables of which some are fixed, whether they were forced or not.
use Rattle.std.specs.Prelude.{◌≡◌, ℕ, ◌<◌, Bool, true, false, ℤ, ◌≤ℤ◌}
use Rattle.move_energy.specs.declared.choice.Choice.{Choice}
use Rattle.move_energy.specs.declared.choice.Choice.TheVariants.{Open, Zero, One}
use Rattle.move_energy.specs.Choices.{bit_of}
use Rattle.site_bounds.specs.Decisions.{IsSmallestLeast}

-- the assignment with the chosen values put in, and as it is at the open variables
abbrev pub with_choices : (ℕ → Choice) → (ℕ → Bool) → ℕ → Bool
with_choices choice x p = bit_of (choice p) (x p)

-- the function of what is left: its value with the chosen values put in
abbrev pub fixed_value : ((ℕ → Bool) → ℤ) → (ℕ → Choice) → (ℕ → Bool) → ℤ
fixed_value E choice x = E (with_choices choice x)

-- an assignment of least value
abbrev pub IsLeast : ((ℕ → Bool) → ℤ) → (ℕ → Bool) → Type 0
IsLeast E x = (y : ℕ → Bool) → E x ≤ℤ E y

-- what is chosen to be 0 is 0 in s
abbrev pub HasZeros : ℕ → (ℕ → Choice) → (ℕ → Bool) → Type 0
HasZeros n choice s = (p : ℕ) → p < n → choice p ≡ Zero → s p ≡ false

-- what is chosen to be 1 is 1 in s
abbrev pub HasOnes : ℕ → (ℕ → Choice) → (ℕ → Bool) → Type 0
HasOnes n choice s = (p : ℕ) → p < n → choice p ≡ One → s p ≡ true

-- what is chosen to be 0 is 0 in the least assignment with the fewest ones
abbrev pub AreLeastZeros : ℕ → ((ℕ → Bool) → ℤ) → (ℕ → Choice) → Type 0
AreLeastZeros n E choice = (s : ℕ → Bool) → IsSmallestLeast n E s → HasZeros n choice s

-- what is chosen to be 1 is 1 in the least assignment with the fewest ones
abbrev pub AreLeastOnes : ℕ → ((ℕ → Bool) → ℤ) → (ℕ → Choice) → Type 0
AreLeastOnes n E choice = (s : ℕ → Bool) → IsSmallestLeast n E s → HasOnes n choice s

-- of the first n variables, those that are 1 in x are 1 in y
abbrev pub OnesLieWithin : ℕ → (ℕ → Bool) → (ℕ → Bool) → Type 0
OnesLieWithin n x y = (p : ℕ) → p < n → x p ≡ true → y p ≡ true

-- nothing of the set is fixed
abbrev pub IsLeftOpen : ℕ → (ℕ → Choice) → (ℕ → Bool) → Type 0
IsLeftOpen n choice set = (p : ℕ) → p < n → set p ≡ true → choice p ≡ Open
