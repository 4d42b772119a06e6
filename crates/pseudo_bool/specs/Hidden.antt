-- Variables that an energy is least over: what they add, and why one is refused.
use Rattle.std.specs.Prelude.{◌≡◌, ◌==◌, ℕ, ◌+◌, ◌<◌, ◌≤◌, Bool, cond, List, [], ◌∷◌, ◌++◌, All}
use Rattle.std.specs.Prelude.{length, map, ℤ, pos, ◌≤ℤ◌}
use Rattle.pseudo_bool.specs.declared.error.EnergyError.{EnergyError}
use Rattle.pseudo_bool.specs.declared.error.EnergyError.TheVariants.{NoSuchVariable, SameVariable}
use Rattle.pseudo_bool.specs.declared.error.EnergyError.TheVariants.{ValueRange, TooManyTerms}
use Rattle.pseudo_bool.specs.declared.error.EnergyError.TheVariants.{OutOfMemory}
use Rattle.pseudo_bool.specs.declared.term.Term.{Term}
use Rattle.pseudo_bool.specs.declared.term.Term.TheVariants.{One, Two}
use Rattle.pseudo_bool.specs.Energies.{Energy, value_at, IsValue}
use Rattle.pseudo_bool.specs.Limits.{variable_limit, term_limit}

-- the assignment, with one variable at this value
abbrev pub with_bit : (ℕ → Bool) → ℕ → Bool → ℕ → Bool
with_bit x y bit i = cond (i == y) bit (x i)

-- of the values at an assignment where one variable is free, this is the least
pub record IsLeastOver (e : Energy) (y : ℕ) (x : ℕ → Bool) (least : ℤ) : Type 0 where
  pub bit : Bool
  pub reached : value_at e (with_bit x y bit) ≡ least
  pub lowest : (other : Bool) → least ≤ℤ value_at e (with_bit x y other)

-- a term of a variable alone, and one of each named variable and it
abbrev pub tied_terms : List ℕ → ℕ → List ℤ → List ℤ → List Term
tied_terms names y alone beside = One y alone ∷ map (λ x. Two x y beside) names

-- it costs something where the variable is 0, and for each named variable that is 0 where it is 1
abbrev pub unless_all_terms : List ℕ → ℕ → ℤ → List Term
unless_all_terms names y cost =
    tied_terms names y (cost ∷ pos 0 ∷ []) (pos 0 ∷ cost ∷ pos 0 ∷ pos 0 ∷ [])

-- it costs something where the variable is 1, and for each named variable that is 1 where it is 0
abbrev pub if_any_terms : List ℕ → ℕ → ℤ → List Term
if_any_terms names y cost =
    tied_terms names y (pos 0 ∷ cost ∷ []) (pos 0 ∷ pos 0 ∷ cost ∷ pos 0 ∷ [])

-- the energy with one variable more, the next number, and these terms at the end of its list
abbrev pub with_terms : Energy → List Term → Energy
with_terms e terms = record e { variables = e.variables + 1; terms = e.terms ++ terms }

-- a cost, from 0 to the limit of a value
abbrev pub IsTieCost : ℤ → Type 0
IsTieCost cost = (pos 0 ≤ℤ cost) × IsValue cost

-- each named variable is the energy's, and there is room for one more
abbrev pub CanTie : Energy → List ℕ → Type 0
CanTie e names = (e.variables < variable_limit) × All (λ name. name < e.variables) names

-- a cost over named variables that may be added: also room in the list for a term, and one for each
-- of them
pub record IsTieable (e : Energy) (names : List ℕ) (cost : ℤ) : Type 0 where
  pub variables : CanTie e names
  pub cost_is : IsTieCost cost
  pub room : length e.terms + 1 + length names ≤ term_limit

-- why such a cost is refused: the first cause that holds, and out of memory only where none does
abbrev pub IsTieRefusal : Energy → List ℕ → ℤ → EnergyError → Type 0
IsTieRefusal e names cost NoSuchVariable = ¬ CanTie e names
IsTieRefusal e names cost SameVariable = ⊥
IsTieRefusal e names cost ValueRange = CanTie e names × ¬ IsTieCost cost
IsTieRefusal e names cost TooManyTerms =
    CanTie e names × IsTieCost cost × (term_limit < length e.terms + 1 + length names)
IsTieRefusal e names cost OutOfMemory = IsTieable e names cost

-- the same, memory apart
abbrev pub IsTieFault : Energy → List ℕ → ℤ → EnergyError → Type 0
IsTieFault e names cost NoSuchVariable = ¬ CanTie e names
IsTieFault e names cost SameVariable = ⊥
IsTieFault e names cost ValueRange = CanTie e names × ¬ IsTieCost cost
IsTieFault e names cost TooManyTerms =
    CanTie e names × IsTieCost cost × (term_limit < length e.terms + 1 + length names)
IsTieFault e names cost OutOfMemory = ⊥
