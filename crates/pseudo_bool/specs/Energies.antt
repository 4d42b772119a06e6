use Rattle.std.specs.Prelude.{◌≢◌, ℕ, ◌+◌, ◌*◌, ◌<◌, ◌≤◌, Bool, false, cond, List, All, length, ℤ}
use Rattle.std.specs.Prelude.{pos, ◌+ℤ◌, unsigned_abs, slice_index_or}
use Rattle.sums.specs.IntegerSums.{int_sum_by}
use Rattle.pseudo_bool.specs.declared.term.Term.{Term}
use Rattle.pseudo_bool.specs.declared.term.Term.TheVariants.{One, Two, Three}
use Rattle.pseudo_bool.specs.Limits.{variable_limit, term_limit, value_limit, constant_limit}

-- the number at a place of a table
abbrev pub entry : List ℤ → ℕ → ℤ
entry table place = slice_index_or table place (pos 0)

-- a yes-no value as a digit
abbrev pub digit : Bool → ℕ
digit b = cond b 1 0

-- what a term's table has at an assignment: the first variable is the most significant digit of the
-- place
abbrev pub term_value : (ℕ → Bool) → Term → ℤ
term_value x (One first table) = entry table (digit (x first))
term_value x (Two first second table) = entry table (2 * digit (x first) + digit (x second))
term_value x (Three first second third table) =
    entry table (4 * digit (x first) + 2 * digit (x second) + digit (x third))

-- an energy: a constant, how many variables there are, and the terms
pub record Energy : Type 0 where
  pub constant : ℤ
  pub variables : ℕ
  pub terms : List Term

-- the value of an energy at an assignment (Kolmogorov and Zabih 2004, section 2)
abbrev pub value_at : Energy → (ℕ → Bool) → ℤ
value_at e x = e.constant +ℤ int_sum_by (term_value x) e.terms

-- the assignment that a list of bits is
abbrev pub assignment : List Bool → ℕ → Bool
assignment bits i = slice_index_or bits i false

-- z is at least -limit and at most limit
abbrev pub IsWithin : ℕ → ℤ → Type 0
IsWithin limit z = unsigned_abs z ≤ limit

-- a number of a table, and a constant that is added in one call, in their range
abbrev pub IsValue : ℤ → Type 0
IsValue z = IsWithin value_limit z

-- the term is over variables below n, no two of them equal, and its numbers are in their range
abbrev pub IsTerm : ℕ → Term → Type 0
IsTerm n (One first table) = (first < n) × All IsValue table
IsTerm n (Two first second table) =
    (first < n) × (second < n) × (first ≢ second) × All IsValue table
IsTerm n (Three first second third table) =
    (first < n) × (second < n) × (third < n) × (first ≢ second) × (first ≢ third) × (second ≢ third)
    × All IsValue table

-- what is true of every energy
pub record IsEnergy (e : Energy) : Type 0 where
  pub constant : IsWithin constant_limit e.constant
  pub variables : e.variables ≤ variable_limit
  pub count : length e.terms ≤ term_limit
  pub terms : All (IsTerm e.variables) e.terms
