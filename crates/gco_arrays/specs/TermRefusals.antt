-- Why terms over yes-no variables are refused.
use Rattle.std.specs.Prelude.{◌≡◌, ℕ, List, [], ◌∷◌, ◌++◌, length, ◌⊎◌}
use Rattle.pseudo_bool.specs.Energies.{Energy, IsEnergy, IsValue}
use Rattle.pseudo_bool.specs.Refusals.{IsTermRefusal}
use Rattle.pseudo_bool.specs.declared.error.EnergyError.{EnergyError}
use Rattle.pseudo_bool.specs.declared.error.EnergyError.TheVariants as term_why
use Rattle.pseudo_bool.specs.declared.term.Term.{Term}
use Rattle.gco_arrays.specs.declared.refusal.Refusal.{Refusal}
use Rattle.gco_arrays.specs.declared.refusal.Refusal.TheVariants as why

-- the refusal of a call whose term at a place was refused
abbrev pub term_refusal : ℕ → EnergyError → Refusal
term_refusal place term_why.NoSuchVariable = why.NoSuchSite place
term_refusal place term_why.SameVariable = why.SameSite place
term_refusal place term_why.ValueRange = why.WeightRange place
term_refusal place term_why.TooManyTerms = why.TooManyPairs
term_refusal place term_why.OutOfMemory = why.OutOfMemory

-- a term is refused beside those of an energy, and told by their number
abbrev pub IsTermTold : Energy → Term → Refusal → Type 0
IsTermTold e term refusal =
    IsEnergy e × ((error : EnergyError) × IsTermRefusal e term error
    × (refusal ≡ term_refusal (length e.terms) error))

-- of terms that were to be added to an energy one is refused, and each before it was added
pub record AreTermsRefused (e : Energy) (terms : List Term) (refusal : Refusal) : Type 0 where
  pub before : List Term
  pub term : Term
  pub after : List Term
  pub terms_are : terms ≡ before ++ term ∷ after
  pub told : IsTermTold (record e { terms = e.terms ++ before }) term refusal

-- the constant is out of its range, or else the first term of the list that is refused
abbrev pub IsTermsRefusal : Energy → Refusal → Type 0
IsTermsRefusal e refusal =
    ((refusal ≡ why.ConstantRange) × ¬ IsValue e.constant)
    ⊎ (IsValue e.constant × AreTermsRefused (record e { terms = [] }) e.terms refusal)
