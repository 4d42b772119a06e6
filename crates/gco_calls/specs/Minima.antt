-- What a call over yes-no variables answers, and why it is refused. Each cause is told where what
-- comes before it is in order.
use Rattle.std.specs.Prelude.{◌≡◌, ℕ, ◌<◌, ◌⊎◌, Bool, cond, ◌==◌, slice_index, List, Option}
use Rattle.pseudo_bool.specs.Energies.{Energy, IsEnergy}
use Rattle.pseudo_bool.specs.Limits.{variable_limit}
use Rattle.regular.specs.Regularity.{IsFirstFailing}
use Rattle.regular.specs.declared.fixed.Fixed.{Fixed}
use Rattle.gco_arrays.specs.Statuses.{status_of}
use Rattle.gco_arrays.specs.TermRefusals.{IsTermsRefusal}
use Rattle.gco_arrays.specs.declared.refusal.Refusal.{Refusal}
use Rattle.gco_arrays.specs.declared.refusal.Refusal.TheVariants as why
use Rattle.gco_calls.specs.Outcomes.{term_told}
use Rattle.gco_calls.specs.declared.minimise.GcoMinimum.{GcoMinimum}

abbrev pub digit_of : Bool → ℕ
digit_of b = cond b 1 0

-- the assignment that digits are: 1 where the digit is 1
abbrev pub bits : List ℕ → ℕ → Bool
bits digits i = slice_index digits i == 1

-- there are more variables than an energy may have
abbrev pub HasTooManyVariables : Energy → Refusal → Type 0
HasTooManyVariables e refusal = (refusal ≡ why.TooManySites) × (variable_limit < e.variables)

-- the first term that is not regular is told, and of a term of three what is fixed
abbrev pub HasIrregularTerm : Energy → Refusal → Type 0
HasIrregularTerm e refusal = (place : ℕ) × (fixed : Option Fixed)
    × (refusal ≡ why.TermNotRegular place fixed) × IsFirstFailing e place fixed

-- why a call is refused: too many variables, the constant, a term, a term that is not regular, or
-- memory
abbrev pub IsMinimumRefusal : Energy → Refusal → Type 0
IsMinimumRefusal e refusal = HasTooManyVariables e refusal ⊎ IsTermsRefusal e refusal
    ⊎ (IsEnergy e × HasIrregularTerm e refusal) ⊎ (IsEnergy e × (refusal ≡ why.OutOfMemory))

-- the status and the outcome tell a refusal, and the outcome nothing else
pub record IsRefusedIn (refusal : Refusal) (status : ℕ) (told : GcoMinimum) : Type 0 where
  pub status_is : status ≡ status_of refusal
  pub told_is : told ≡ term_told refusal

-- and its cause holds
pub record IsMinimumTold (e : Energy) (status : ℕ) (told : GcoMinimum) : Type 0 where
  pub refusal : Refusal
  pub is_told : IsRefusedIn refusal status told
  pub cause : IsMinimumRefusal e refusal
