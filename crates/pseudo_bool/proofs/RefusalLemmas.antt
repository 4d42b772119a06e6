-- What an addition answers, cause by cause.
use Rattle.std.proofs.Common.{◌≡◌, ℕ, ◌<◌, length, Result, Ok, Err, OnOk, IfErr, inl, inr, refl, arith, rules}
use Rattle.std.specs.Prelude.{IsOkUnless}
use Rattle.pseudo_bool.specs.declared.error.EnergyError.{EnergyError}
use Rattle.pseudo_bool.specs.declared.error.EnergyError.TheVariants.{NoSuchVariable, SameVariable, ValueRange, TooManyTerms, OutOfMemory}
use Rattle.pseudo_bool.specs.declared.term.Term.{Term}
use Rattle.pseudo_bool.specs.declared.term.Term.TheVariants.{One, Two, Three}
use Rattle.pseudo_bool.specs.Energies.{Energy, IsTerm}
use Rattle.pseudo_bool.specs.Limits.{term_limit}
use Rattle.pseudo_bool.specs.Refusals.{NamesKnown, NamesUnknown, NamesApart, NamesTwice, HasValues, IsTermAccepted, IsTermRefusal}

-- the parts of a term
known : (n : ℕ) (t : Term) → IsTerm n t → NamesKnown n t
known n (One first table) h = h.0
known n (Two first second table) h = (h.0, h.1)
known n (Three first second third table) h = (h.0, h.1, h.2)

apart : (n : ℕ) (t : Term) → IsTerm n t → NamesApart t
apart n (One first table) h = tt
apart n (Two first second table) h = h.2
apart n (Three first second third table) h = (h.3, h.4, h.5)

values : (n : ℕ) (t : Term) → IsTerm n t → HasValues t
values n (One first table) h = h.1
values n (Two first second table) h = h.3
values n (Three first second third table) h = h.6

-- no two causes hold
not_both_named : (n : ℕ) (t : Term) → NamesKnown n t → NamesUnknown n t → ⊥
not_both_named n (One first table) k u = absurd (omega arith)
not_both_named n (Two first second table) k (inl u) = absurd (omega arith)
not_both_named n (Two first second table) k (inr u) = absurd (omega arith)
not_both_named n (Three first second third table) k (inl u) = absurd (omega arith)
not_both_named n (Three first second third table) k (inr (inl u)) = absurd (omega arith)
not_both_named n (Three first second third table) k (inr (inr u)) = absurd (omega arith)

not_both_apart : (t : Term) → NamesApart t → NamesTwice t → ⊥
not_both_apart (One first table) a u = u
not_both_apart (Two first second table) a u = a u
not_both_apart (Three first second third table) a (inl u) = a.0 u
not_both_apart (Three first second third table) a (inr (inl u)) = a.1 u
not_both_apart (Three first second third table) a (inr (inr u)) = a.2 u

pub unknown_refused : {T : Type 0} (e : Energy) (t : Term) (r : Result T EnergyError) → OnOk r (IsTermAccepted e t) → IfErr r (IsTermRefusal e t)
    → NamesUnknown e.variables t → r ≡ Err NoSuchVariable
unknown_refused e t (Ok x) ok err u = absurd (not_both_named e.variables t (known e.variables t ok.is_term) u)
unknown_refused e t (Err NoSuchVariable) ok err u = refl
unknown_refused e t (Err SameVariable) ok err u = absurd (not_both_named e.variables t err.0 u)
unknown_refused e t (Err ValueRange) ok err u = absurd (not_both_named e.variables t err.0 u)
unknown_refused e t (Err TooManyTerms) ok err u = absurd (not_both_named e.variables t (known e.variables t err.0) u)
unknown_refused e t (Err OutOfMemory) ok err u = absurd (not_both_named e.variables t (known e.variables t err.is_term) u)

pub twice_refused : {T : Type 0} (e : Energy) (t : Term) (r : Result T EnergyError) → OnOk r (IsTermAccepted e t) → IfErr r (IsTermRefusal e t)
    → NamesKnown e.variables t → NamesTwice t → r ≡ Err SameVariable
twice_refused e t (Ok x) ok err k u = absurd (not_both_apart t (apart e.variables t ok.is_term) u)
twice_refused e t (Err NoSuchVariable) ok err k u = absurd (not_both_named e.variables t k err)
twice_refused e t (Err SameVariable) ok err k u = refl
twice_refused e t (Err ValueRange) ok err k u = absurd (not_both_apart t err.1 u)
twice_refused e t (Err TooManyTerms) ok err k u = absurd (not_both_apart t (apart e.variables t err.0) u)
twice_refused e t (Err OutOfMemory) ok err k u = absurd (not_both_apart t (apart e.variables t err.is_term) u)

pub range_refused : {T : Type 0} (e : Energy) (t : Term) (r : Result T EnergyError) → OnOk r (IsTermAccepted e t) → IfErr r (IsTermRefusal e t)
    → NamesKnown e.variables t → NamesApart t → ¬ HasValues t → r ≡ Err ValueRange
range_refused e t (Ok x) ok err k a u = absurd (u (values e.variables t ok.is_term))
range_refused e t (Err NoSuchVariable) ok err k a u = absurd (not_both_named e.variables t k err)
range_refused e t (Err SameVariable) ok err k a u = absurd (not_both_apart t a err.1)
range_refused e t (Err ValueRange) ok err k a u = refl
range_refused e t (Err TooManyTerms) ok err k a u = absurd (u (values e.variables t err.0))
range_refused e t (Err OutOfMemory) ok err k a u = absurd (u (values e.variables t err.is_term))

pub term_taken : {T : Type 0} (e : Energy) (t : Term) (r : Result T EnergyError) → OnOk r (IsTermAccepted e t) → IfErr r (IsTermRefusal e t)
    → IsTerm e.variables t → length e.terms < term_limit → IsOkUnless r OutOfMemory
term_taken e t (Ok x) ok err h room = search rules
term_taken e t (Err NoSuchVariable) ok err h room = absurd (not_both_named e.variables t (known e.variables t h) err)
term_taken e t (Err SameVariable) ok err h room = absurd (not_both_apart t (apart e.variables t h) err.1)
term_taken e t (Err ValueRange) ok err h room = absurd (err.2 (values e.variables t h))
term_taken e t (Err TooManyTerms) ok err h room = absurd (omega (arith, err.1, room))
term_taken e t (Err OutOfMemory) ok err h room = refl
