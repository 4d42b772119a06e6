-- What a list of pairs answers, beside what the integers of a pair name.
use Rattle.std.proofs.Common.{true, false, ◌≡◌, ◌≢◌, ℕ, ◌<◌, nat_lt, [], ◌∷◌, ◌++◌, length, ℤ, pos, unsigned_abs, Err, inl, inr, refl, ap, arith}
use Rattle.std.specs.Ordering.{int_eq}
use Rattle.std.proofs.lemmas.Bool.{cases_Bool}
use Rattle.std.proofs.lemmas.Bool.Decides.{nat_tests, Decides-int_eq}
use Rattle.std.proofs.lemmas.Int.{ints}
use Rattle.label_field.specs.declared.error.LabelFieldError.{LabelFieldError}
use Rattle.label_field.specs.declared.error.LabelFieldError.TheVariants as list
use Rattle.label_field.specs.Limits.{pair_limit}
use Rattle.label_field.specs.PairLists.{IsPairAccepted, IsPairRefusal, IsWeight, PairList}
use Rattle.problem_files.specs.Gains.{Gains, refusal_of}
use Rattle.problem_files.specs.PairFields.{is_site, is_weight, pair_with}
use Rattle.problem_files.specs.declared.label_fault.LabelFault.TheVariants as fault

weight_test : (w : ℤ) → IsWeight w → is_weight w ≡ true
weight_test w h = grind (arith, ints, nat_tests)

weight_fails : (w : ℤ) → ¬ IsWeight w → is_weight w ≡ false
weight_fails w h = elim (cases_Bool (is_weight w)) [
  | inr unmet ↦ unmet
  | inl met ↦ absurd (h (grind (arith, ints, nat_tests)))
]

same_test : (x y : ℕ) → x ≡ y → int_eq (pos x) (pos y) ≡ true
same_test x y e = (Decides-int_eq (pos x) (pos y)).1 (ap pos e)

apart_test : (x y : ℕ) → x ≢ y → int_eq (pos x) (pos y) ≡ false
apart_test x y apart = elim (cases_Bool (int_eq (pos x) (pos y))) [
  | inr unmet ↦ unmet
  | inl same ↦ absurd (apart (let e : pos x ≡ pos y = (Decides-int_eq (pos x) (pos y)).0 same in cc))
]

-- a first end that is no site, and a second
pub first_unknown : (n i : ℕ) (p q w : ℤ) → is_site n p ≡ false → pair_with n i p q w ≡ Err (fault.NoSuchSite i)
unfolding pair_with
first_unknown n i p q w unmet = rw unmet refl

pub second_unknown : (n i : ℕ) (p q w : ℤ) → is_site n q ≡ false → pair_with n i p q w ≡ Err (fault.NoSuchSite i)
unfolding pair_with
second_unknown n i p q w unmet = elim (cases_Bool (is_site n p)) [
  | inl first ↦ rw (first, unmet) refl
  | inr other ↦ rw other refl
]

pub taken : (old new : PairList) (i x y : ℕ) (w : ℤ) → IsPairAccepted old x y w
    → new ≡ record old { list = old.list ++ record { first = x; second = y; weight = unsigned_abs w } ∷ [] }
    → Gains old new (pair_with old.sites i (pos x) (pos y) w)
unfolding pair_with
taken old new i x y w ok added =
    let first : nat_lt x old.sites ≡ true = grind (arith, nat_tests, ok.first_site) in
    let second : nat_lt y old.sites ≡ true = grind (arith, nat_tests, ok.second_site) in
    rw (first, second, apart_test x y ok.unequal, weight_test w ok.in_range) added

pub refused : (old : PairList) (i x y : ℕ) (w : ℤ) (e : LabelFieldError) → length old.list < pair_limit → IsPairRefusal old x y w e
    → refusal_of i e ≢ fault.OutOfMemory → pair_with old.sites i (pos x) (pos y) w ≡ Err (refusal_of i e)
unfolding pair_with
refused old i x y w list.NoSuchSite room (inl h) memory =
    let unmet : nat_lt x old.sites ≡ false = grind (arith, nat_tests) in first_unknown old.sites i (pos x) (pos y) w unmet
refused old i x y w list.NoSuchSite room (inr h) memory =
    let unmet : nat_lt y old.sites ≡ false = grind (arith, nat_tests) in second_unknown old.sites i (pos x) (pos y) w unmet
refused old i x y w list.SamePair room h memory =
    let first : nat_lt x old.sites ≡ true = grind (arith, nat_tests, h.0) in
    let second : nat_lt y old.sites ≡ true = grind (arith, nat_tests, h.0, h.1) in
    rw (first, second, same_test x y h.1) refl
refused old i x y w list.TooManyPairs room h memory = absurd (omega (arith, h.3))
refused old i x y w list.WeightRange room h memory =
    let first : nat_lt x old.sites ≡ true = grind (arith, nat_tests, h.0) in
    let second : nat_lt y old.sites ≡ true = grind (arith, nat_tests, h.1) in
    rw (first, second, apart_test x y h.2, weight_fails w h.4) refl
refused old i x y w (list.OutOfMemory _) room h memory = absurd (memory refl)
refused old i x y w list.NoSuchLabel room h memory = absurd h
