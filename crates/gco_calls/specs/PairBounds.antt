-- What a call for a bound answers whose pairs have costs of their own.
use Rattle.std.specs.Prelude.{◌≡◌, ◌⊎◌, ℕ, List, ℤ}
use Rattle.dual_bound.specs.Sizes.{IsBoundRefusal}
use Rattle.dual_bound.specs.declared.error.BoundError.{BoundError}
use Rattle.gco_arrays.specs.PairCalls.{IsPairCallGiven, PairCall, instance_of_call}
use Rattle.gco_arrays.specs.PairRefusals.{IsPairCallRefusal}
use Rattle.gco_arrays.specs.Statuses.{status_of}
use Rattle.gco_arrays.specs.declared.refusal.Refusal.{Refusal}
use Rattle.gco_calls.specs.Bounds.{IsBounded, bound_refusal, bound_refusal_told, bound_told}
use Rattle.gco_calls.specs.declared.bound.GcoBound.{GcoBound}

-- what was given is in order, and a bound of the problem and a labelling are told
pub record IsPairBoundTold (a : PairCall) (allowed : ℕ) (labels : List ℕ)
    (told : GcoBound) : Type 0 where
  pub given : IsPairCallGiven a
  pub low : ℤ
  pub bounded : IsBounded (instance_of_call a) allowed labels low
  pub told_is : told ≡ bound_told low

-- why a bound is refused: what it was given, or the search
abbrev pub IsPairBoundCause : PairCall → ℕ → Refusal → Type 0
IsPairBoundCause a allowed refusal =
    IsPairCallRefusal a refusal
    ⊎ (IsPairCallGiven a × ((error : BoundError)
    × IsBoundRefusal (instance_of_call a) allowed error × (refusal ≡ bound_refusal error)))

-- the status tells a refusal of a bound, and its cause holds
pub record IsPairBoundRefusalTold (a : PairCall) (allowed status : ℕ)
    (told : GcoBound) : Type 0 where
  pub refusal : Refusal
  pub status_is : status ≡ status_of refusal
  pub told_is : told ≡ bound_refusal_told refusal
  pub cause : IsPairBoundCause a allowed refusal
