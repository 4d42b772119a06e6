-- What a call for a bound answers.
use Rattle.std.specs.Prelude.{◌≡◌, ◌⊎◌, ℕ, ◌<◌, ◌≤◌, List, All, length, ℤ, pos, ◌≤ℤ◌}
use Rattle.std.specs.Prelude.{Result, Ok, Err}
use Rattle.label_energies.specs.Energies.{Instance, data_energy}
use Rattle.message_bound.specs.Bounds.{IsLowerBound, IsCheapest}
use Rattle.dual_bound.specs.Sizes.{bytes_of, IsBoundRefusal}
use Rattle.dual_bound.specs.declared.bound.LowerBound.{LowerBound}
use Rattle.dual_bound.specs.declared.error.BoundError.{BoundError}
use Rattle.dual_bound.specs.declared.error.BoundError.TheVariants as bound_why
use Rattle.gco_arrays.specs.Calls.{CallArrays, IsGiven, instance_given}
use Rattle.gco_arrays.specs.Refusals.{IsGivenRefusal}
use Rattle.gco_arrays.specs.Statuses.{status_of, told_place}
use Rattle.gco_calls.specs.declared.bound.GcoBound.{GcoBound}
use Rattle.gco_arrays.specs.declared.refusal.Refusal.{Refusal}
use Rattle.gco_arrays.specs.declared.refusal.Refusal.TheVariants as why

-- the labels are a labelling of the problem; no labelling has an energy below the number, which is
-- at least what the cheapest labels cost the sites; and so much memory was allowed
pub record IsBounded (m : Instance) (allowed : ℕ) (labels : List ℕ) (low : ℤ) : Type 0 where
  pub below : IsLowerBound m low
  pub cheapest : (h : ℕ → ℕ) → IsCheapest m h → pos (data_energy m h) ≤ℤ low
  pub sites_are : length labels ≡ m.sites
  pub labelled : All (λ label. label < m.labels) labels
  pub within : bytes_of m ≤ allowed

-- what a search for a bound answers: a bound and a labelling, or its refusal
abbrev pub AnswersBound : Instance → ℕ → Result LowerBound BoundError → Type 0
AnswersBound m allowed (Ok found) = IsBounded m allowed found.labelling.at found.low
AnswersBound m allowed (Err e) = IsBoundRefusal m allowed e

-- a bound is told, and nothing else
abbrev pub bound_told : ℤ → GcoBound
bound_told low = record { low = low; place = 0 }

-- a refusal is told, and nothing else: the place that it names
abbrev pub bound_refusal_told : Refusal → GcoBound
bound_refusal_told refusal = record { low = pos 0; place = told_place refusal }

-- what was given is in order, and a bound of the problem and a labelling are told
pub record IsBoundTold (a : CallArrays) (allowed : ℕ) (labels : List ℕ)
    (told : GcoBound) : Type 0 where
  pub given : IsGiven a
  pub low : ℤ
  pub bounded : IsBounded (instance_given a) allowed labels low
  pub told_is : told ≡ bound_told low

-- the refusal of a call whose bound was refused
abbrev pub bound_refusal : BoundError → Refusal
bound_refusal (bound_why.TooLarge bytes) = why.TooLarge
bound_refusal bound_why.OutOfMemory = why.OutOfMemory

-- why a bound is refused: what it was given, or the search
abbrev pub IsBoundCause : CallArrays → ℕ → Refusal → Type 0
IsBoundCause a allowed refusal =
    IsGivenRefusal a refusal
    ⊎ (IsGiven a × ((error : BoundError) × IsBoundRefusal (instance_given a) allowed error
    × (refusal ≡ bound_refusal error)))

-- the status tells a refusal of a bound, and its cause holds
pub record IsBoundRefusalTold (a : CallArrays) (allowed status : ℕ) (told : GcoBound) : Type 0 where
  pub refusal : Refusal
  pub status_is : status ≡ status_of refusal
  pub told_is : told ≡ bound_refusal_told refusal
  pub cause : IsBoundCause a allowed refusal
