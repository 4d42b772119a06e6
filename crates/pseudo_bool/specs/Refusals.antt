-- Which terms an energy takes, and why it refuses one.
use Rattle.std.specs.Prelude.{◌≡◌, ◌≢◌, ℕ, ◌<◌, ◌≤◌, ◌⊎◌, ⊤, [], ◌∷◌, ◌++◌, All, length}
use Rattle.pseudo_bool.specs.declared.error.EnergyError.{EnergyError}
use Rattle.pseudo_bool.specs.declared.error.EnergyError.TheVariants.{NoSuchVariable, SameVariable}
use Rattle.pseudo_bool.specs.declared.error.EnergyError.TheVariants.{ValueRange, TooManyTerms}
use Rattle.pseudo_bool.specs.declared.error.EnergyError.TheVariants.{OutOfMemory}
use Rattle.pseudo_bool.specs.declared.term.Term.{Term}
use Rattle.pseudo_bool.specs.declared.term.Term.TheVariants.{One, Two, Three}
use Rattle.pseudo_bool.specs.Energies.{Energy, IsTerm, IsValue}
use Rattle.pseudo_bool.specs.Limits.{term_limit}

-- each variable of the term is below n
abbrev pub NamesKnown : ℕ → Term → Type 0
NamesKnown n (One first table) = first < n
NamesKnown n (Two first second table) = (first < n) × (second < n)
NamesKnown n (Three first second third table) = (first < n) × (second < n) × (third < n)

-- some variable of the term is not
abbrev pub NamesUnknown : ℕ → Term → Type 0
NamesUnknown n (One first table) = n ≤ first
NamesUnknown n (Two first second table) = (n ≤ first) ⊎ (n ≤ second)
NamesUnknown n (Three first second third table) = (n ≤ first) ⊎ (n ≤ second) ⊎ (n ≤ third)

-- no variable stands twice in the term
abbrev pub NamesApart : Term → Type 0
NamesApart (One first table) = ⊤
NamesApart (Two first second table) = first ≢ second
NamesApart (Three first second third table) = (first ≢ second) × (first ≢ third) × (second ≢ third)

-- some variable does
abbrev pub NamesTwice : Term → Type 0
NamesTwice (One first table) = ⊥
NamesTwice (Two first second table) = first ≡ second
NamesTwice (Three first second third table) = (first ≡ second) ⊎ (first ≡ third) ⊎ (second ≡ third)

-- the numbers of the term's table are in their range
abbrev pub HasValues : Term → Type 0
HasValues (One first table) = All IsValue table
HasValues (Two first second table) = All IsValue table
HasValues (Three first second third table) = All IsValue table

-- a term that may be added: over variables of the energy, no two equal, its numbers in their range,
-- and room in the list
pub record IsTermAccepted (e : Energy) (term : Term) : Type 0 where
  pub is_term : IsTerm e.variables term
  pub room : length e.terms < term_limit

-- the new energy has the term at the end of its list, and is else as it was
abbrev pub IsAdded : Energy → Energy → Term → Type 0
IsAdded old new term = new ≡ record old { terms = old.terms ++ term ∷ [] }

-- why a term is refused: the first cause that holds, and out of memory only where none does
abbrev pub IsTermRefusal : Energy → Term → EnergyError → Type 0
IsTermRefusal e term NoSuchVariable = NamesUnknown e.variables term
IsTermRefusal e term SameVariable = NamesKnown e.variables term × NamesTwice term
IsTermRefusal e term ValueRange = NamesKnown e.variables term × NamesApart term × ¬ HasValues term
IsTermRefusal e term TooManyTerms = IsTerm e.variables term × (term_limit ≤ length e.terms)
IsTermRefusal e term OutOfMemory = IsTermAccepted e term
