-- What an addition to an energy answers, beside what the integers of a term name.
use Rattle.std.proofs.Common.{true, false, ◌≡◌, ◌≢◌, ℕ, ◌<◌, ◌≤◌, nat_le, nat_lt, List, [], ◌∷◌, get_or, length, ℤ, pos, unsigned_abs, All, Result, Ok, Err, Option, Some, None, option_and_then, ◌⊎◌, inl, inr, refl, ap, arith, ◌++◌}
use Rattle.std.specs.Prelude.{IsOkUnless}
use Rattle.std.specs.Bool.{Decides}
use Rattle.std.specs.List.{list_all}
use Rattle.std.specs.Ordering.{int_eq}
use Rattle.std.proofs.lemmas.Bool.{cases_Bool}
use Rattle.std.proofs.lemmas.Bool.Decides.{nat_tests, Decides-by_and, Decides-int_eq, not_from_Decides}
use Rattle.pseudo_bool.specs.declared.error.EnergyError.{EnergyError}
use Rattle.pseudo_bool.specs.declared.error.EnergyError.TheVariants as energy
use Rattle.pseudo_bool.specs.Limits.{value_limit}
use Rattle.pseudo_bool.specs.declared.term.Term.{Term}
use Rattle.pseudo_bool.specs.declared.term.Term.TheVariants.{One, Two, Three}
use Rattle.pseudo_bool.specs.Energies.{Energy, IsTerm, IsWithin}
use Rattle.problem_files.specs.Added.{Gains}
use Rattle.problem_files.specs.declared.energy_fault.EnergyFault.{EnergyFault}
use Rattle.problem_files.specs.declared.energy_fault.EnergyFault.TheVariants as fault
use Rattle.problem_files.specs.declared.energy_fault.EnergyKey.TheVariants.{Terms}
use Rattle.problem_files.specs.Problem.{term_or_fault, is_value, term_from, term_field}
use Rattle.problem_files.specs.Refusal.{refusal_of}
use Rattle.problem_files.specs.Within.{list_within}

-- the answer is the fault that is due, or, but for memory, the term that is due
abbrev pub IsDue : {T : Type 0} → ℕ → Result Term EnergyFault → Term → Result T EnergyError → Type 0
IsDue i due term r = ((e : EnergyError) × (due ≡ Err (refusal_of i e)) × (r ≡ Err e)) ⊎ ((due ≡ Ok term) × IsOkUnless r energy.OutOfMemory)

pub due_at_ok : {T : Type 0} (i : ℕ) (due : Result Term EnergyFault) (term : Term) (r : Result T EnergyError) (t : T) → IsDue i due term r → r ≡ Ok t → due ≡ Ok term
due_at_ok i due term r t (inl h) ok = cc (h.1, h.2)
due_at_ok i due term r t (inr h) ok = h.0

pub due_at_err : {T : Type 0} (i : ℕ) (due : Result Term EnergyFault) (term : Term) (r : Result T EnergyError) (e : EnergyError) → IsDue i due term r → r ≡ Err e → refusal_of i e ≢ fault.OutOfMemory → due ≡ Err (refusal_of i e)
due_at_err i due term r e (inl h) err memory = cc (h.1, h.2)
due_at_err i due term r e (inr h) err memory = absurd (memory (let only = rw err at h.1 in rw only))

-- the term that is due is gained
pub gained : (old new : Energy) (due : Result Term EnergyFault) (term : Term) → due ≡ Ok term → new ≡ record old { terms = old.terms ++ term ∷ [] } → Gains old new due
gained old new due term is more = rw is more

in_range : (z : ℤ) → Decides (is_value z) (IsWithin value_limit z)
in_range z = (λ test. grind (arith, nat_tests), λ within. grind (arith, nat_tests))

are_values : (table : List ℤ) → Decides (list_all is_value table) (All (IsWithin value_limit) table)
are_values table = Decides-by_and is_value (IsWithin value_limit) (list_all is_value) in_range refl (λ _ _. refl) table

pub one_is_due : {T : Type 0} (n i x : ℕ) (table : List ℤ) (r : Result T EnergyError)
    → (n ≤ x → r ≡ Err energy.NoSuchVariable)
    → (x < n → ¬ All (IsWithin value_limit) table → r ≡ Err energy.ValueRange)
    → (IsTerm n (One x table) → IsOkUnless r energy.OutOfMemory)
    → IsDue i (term_or_fault n i (pos x ∷ []) table (One x table)) (One x table) r
one_is_due n i x table r variable range accepted =
    elim (cases_Bool (nat_lt x n)) [
      | inr other ↦ inl (energy.NoSuchVariable, rw other refl, variable (grind (arith, nat_tests)))
      | inl here ↦
          let known : x < n = grind (arith, nat_tests) in
          elim (cases_Bool (list_all is_value table)) [
            | inr beyond ↦ inl (energy.ValueRange, rw (here, beyond) refl, range known (not_from_Decides _ (are_values table) beyond))
            | inl within_range ↦ inr (rw (here, within_range) refl, accepted (known, (are_values table).0 within_range))
          ]
    ]

pub two_is_due : {T : Type 0} (n i x y : ℕ) (table : List ℤ) (r : Result T EnergyError)
    → ((n ≤ x) ⊎ (n ≤ y) → r ≡ Err energy.NoSuchVariable)
    → (x < n → x ≡ y → r ≡ Err energy.SameVariable)
    → (x < n → y < n → x ≢ y → ¬ All (IsWithin value_limit) table → r ≡ Err energy.ValueRange)
    → (IsTerm n (Two x y table) → IsOkUnless r energy.OutOfMemory)
    → IsDue i (term_or_fault n i (pos x ∷ pos y ∷ []) table (Two x y table)) (Two x y table) r
two_is_due n i x y table r variable same range accepted =
    elim (cases_Bool (nat_lt x n)) [
      | inr other ↦ inl (energy.NoSuchVariable, rw other refl, variable (inl (grind (arith, nat_tests))))
      | inl first ↦
          let first_known : x < n = grind (arith, nat_tests) in
          elim (cases_Bool (nat_lt y n)) [
            | inr other ↦ inl (energy.NoSuchVariable, rw (first, other) refl, variable (inr (grind (arith, nat_tests))))
            | inl second ↦
                let second_known : y < n = grind (arith, nat_tests) in
                elim (cases_Bool (int_eq (pos x) (pos y))) [
                  | inl equal ↦ inl (energy.SameVariable, rw (first, second, equal) refl, same first_known (let equal_numbers : pos x ≡ pos y = (Decides-int_eq (pos x) (pos y)).0 equal in cc))
                  | inr unequal ↦
                      let distinct : x ≢ y = λ equal. not_from_Decides _ (Decides-int_eq (pos x) (pos y)) unequal (ap pos equal) in
                      elim (cases_Bool (list_all is_value table)) [
                        | inr beyond ↦ inl (energy.ValueRange, rw (first, second, unequal, beyond) refl, range first_known second_known distinct (not_from_Decides _ (are_values table) beyond))
                        | inl within_range ↦ inr (rw (first, second, unequal, within_range) refl, accepted (first_known, second_known, distinct, (are_values table).0 within_range))
                      ]
                ]
          ]
    ]

-- two numbers that are the same integer, and two that are not
equal_here : (x y : ℕ) → int_eq (pos x) (pos y) ≡ true → x ≡ y
equal_here x y test = let same : pos x ≡ pos y = (Decides-int_eq (pos x) (pos y)).0 test in cc

unequal_here : (x y : ℕ) → int_eq (pos x) (pos y) ≡ false → x ≢ y
unequal_here x y test equal = not_from_Decides _ (Decides-int_eq (pos x) (pos y)) test (ap pos equal)

-- a term of three variables that are there
three_known : {T : Type 0} (n i x y z : ℕ) (table : List ℤ) (r : Result T EnergyError)
    → nat_lt x n ≡ true → nat_lt y n ≡ true → nat_lt z n ≡ true
    → ((x ≡ y) ⊎ (x ≡ z) ⊎ (y ≡ z) → r ≡ Err energy.SameVariable)
    → (x ≢ y → x ≢ z → y ≢ z → ¬ All (IsWithin value_limit) table → r ≡ Err energy.ValueRange)
    → (x ≢ y → x ≢ z → y ≢ z → All (IsWithin value_limit) table → IsOkUnless r energy.OutOfMemory)
    → IsDue i (term_or_fault n i (pos x ∷ pos y ∷ pos z ∷ []) table (Three x y z table)) (Three x y z table) r
three_known n i x y z table r first second third same range accepted =
    elim (cases_Bool (int_eq (pos x) (pos y))) [
      | inl equal ↦ inl (energy.SameVariable, rw (first, second, third, equal) refl, same (inl (equal_here x y equal)))
      | inr x_y ↦
          elim (cases_Bool (int_eq (pos x) (pos z))) [
            | inl equal ↦ inl (energy.SameVariable, rw (first, second, third, x_y, equal) refl, same (inr (inl (equal_here x z equal))))
            | inr x_z ↦
                elim (cases_Bool (int_eq (pos y) (pos z))) [
                  | inl equal ↦ inl (energy.SameVariable, rw (first, second, third, x_y, x_z, equal) refl, same (inr (inr (equal_here y z equal))))
                  | inr y_z ↦
                      elim (cases_Bool (list_all is_value table)) [
                        | inr beyond ↦ inl (
                          energy.ValueRange,
                          rw (first, second, third, x_y, x_z, y_z, beyond) refl,
                          range (unequal_here x y x_y) (unequal_here x z x_z) (unequal_here y z y_z) (not_from_Decides _ (are_values table) beyond),
                        )
                        | inl within_range ↦ inr (
                          rw (first, second, third, x_y, x_z, y_z, within_range) refl,
                          accepted (unequal_here x y x_y) (unequal_here x z x_z) (unequal_here y z y_z) ((are_values table).0 within_range),
                        )
                      ]
                ]
          ]
    ]

pub three_is_due : {T : Type 0} (n i x y z : ℕ) (table : List ℤ) (r : Result T EnergyError)
    → ((n ≤ x) ⊎ (n ≤ y) ⊎ (n ≤ z) → r ≡ Err energy.NoSuchVariable)
    → (x < n → y < n → z < n → (x ≡ y) ⊎ (x ≡ z) ⊎ (y ≡ z) → r ≡ Err energy.SameVariable)
    → (x < n → y < n → z < n → x ≢ y → x ≢ z → y ≢ z → ¬ All (IsWithin value_limit) table → r ≡ Err energy.ValueRange)
    → (IsTerm n (Three x y z table) → IsOkUnless r energy.OutOfMemory)
    → IsDue i (term_or_fault n i (pos x ∷ pos y ∷ pos z ∷ []) table (Three x y z table)) (Three x y z table) r
three_is_due n i x y z table r variable same range accepted =
    elim (cases_Bool (nat_lt x n)) [
      | inr other ↦ inl (energy.NoSuchVariable, rw other refl, variable (inl (grind (arith, nat_tests))))
      | inl first ↦
          elim (cases_Bool (nat_lt y n)) [
            | inr other ↦ inl (energy.NoSuchVariable, rw (first, other) refl, variable (inr (inl (grind (arith, nat_tests)))))
            | inl second ↦
                elim (cases_Bool (nat_lt z n)) [
                  | inr other ↦ inl (energy.NoSuchVariable, rw (first, second, other) refl, variable (inr (inr (grind (arith, nat_tests)))))
                  | inl third ↦
                      let x_known : x < n = grind (arith, nat_tests) in
                      let y_known : y < n = grind (arith, nat_tests) in
                      let z_known : z < n = grind (arith, nat_tests) in
                      three_known n i x y z table r first second third (same x_known y_known z_known) (range x_known y_known z_known)
                      (λ x_y x_z y_z values. accepted (x_known, y_known, z_known, x_y, x_z, y_z, values))
                ]
          ]
    ]

-- a list that a reader of at most n integers gives is the whole list
pub found : (n : ℕ) (o : Option (List ℤ)) (zs : List ℤ) → Some zs ≡ option_and_then (list_within n) o → o ≡ Some zs
found n None zs e = cc
found n (Some ys) zs e = elim (cases_Bool (nat_le (length ys) n)) [
  | inl fits ↦ let same = rw fits at e in cc
  | inr long ↦ let none = rw long at e in cc
]

-- more than eight numbers make no table
nine_values : (n i : ℕ) (on : List ℤ) (a b c d e f g h k : ℤ) (values : List ℤ)
    → term_from n i on (a ∷ b ∷ c ∷ d ∷ e ∷ f ∷ g ∷ h ∷ k ∷ values) ≡ Err (fault.BadElement Terms i)
nine_values n i [] a b c d e f g h k values = refl
nine_values n i (x ∷ []) a b c d e f g h k values = refl
nine_values n i (x ∷ y ∷ []) a b c d e f g h k values = refl
nine_values n i (x ∷ y ∷ z ∷ []) a b c d e f g h k values = refl
nine_values n i (x ∷ y ∷ z ∷ w ∷ on) a b c d e f g h k values = refl

pub long_values : (n i : ℕ) (on : List ℤ) (values : Option (List ℤ)) → None ≡ option_and_then (list_within 8) values → term_field n i (Some on) values ≡ Err (fault.BadElement Terms i)
long_values n i on None e = refl
long_values n i on (Some []) e = absurd (let no = e in cc)
long_values n i on (Some (a ∷ [])) e = absurd (let no = e in cc)
long_values n i on (Some (a ∷ b ∷ [])) e = absurd (let no = e in cc)
long_values n i on (Some (a ∷ b ∷ c ∷ [])) e = absurd (let no = e in cc)
long_values n i on (Some (a ∷ b ∷ c ∷ d ∷ [])) e = absurd (let no = e in cc)
long_values n i on (Some (a ∷ b ∷ c ∷ d ∷ p ∷ [])) e = absurd (let no = e in cc)
long_values n i on (Some (a ∷ b ∷ c ∷ d ∷ p ∷ q ∷ [])) e = absurd (let no = e in cc)
long_values n i on (Some (a ∷ b ∷ c ∷ d ∷ p ∷ q ∷ r ∷ [])) e = absurd (let no = e in cc)
long_values n i on (Some (a ∷ b ∷ c ∷ d ∷ p ∷ q ∷ r ∷ s ∷ [])) e = absurd (let no = e in cc)
long_values n i on (Some (a ∷ b ∷ c ∷ d ∷ p ∷ q ∷ r ∷ s ∷ k ∷ values)) e = nine_values n i on a b c d p q r s k values

-- four numbers make a table of two variables
pub four_named : (n i : ℕ) (on : List ℤ) (x y : ℤ) (table : List ℤ) → on ≡ x ∷ y ∷ [] → length table ≡ 4
    → term_from n i on table ≡ term_or_fault n i (x ∷ y ∷ []) table (Two (unsigned_abs x) (unsigned_abs y) table)
four_named n i on x y [] is e = absurd (omega arith)
four_named n i on x y (a ∷ []) is e = absurd (omega arith)
four_named n i on x y (a ∷ b ∷ []) is e = absurd (omega arith)
four_named n i on x y (a ∷ b ∷ c ∷ []) is e = absurd (omega arith)
four_named n i on x y (a ∷ b ∷ c ∷ d ∷ []) is e = rw is refl
four_named n i on x y (a ∷ b ∷ c ∷ d ∷ k ∷ table) is e = absurd (omega arith)

-- a list of two, by its elements
pub two_listed : (zs : List ℤ) (d : ℤ) → length zs ≡ 2 → zs ≡ get_or zs 0 d ∷ get_or zs 1 d ∷ []
two_listed [] d e = absurd (omega arith)
two_listed (x ∷ []) d e = absurd (omega arith)
two_listed (x ∷ y ∷ []) d e = refl
two_listed (x ∷ y ∷ z ∷ zs) d e = absurd (omega arith)

-- eight numbers make a table of three variables
pub eight_named : (n i : ℕ) (on : List ℤ) (x y z : ℤ) (table : List ℤ) → on ≡ x ∷ y ∷ z ∷ [] → length table ≡ 8
    → term_from n i on table ≡ term_or_fault n i (x ∷ y ∷ z ∷ []) table (Three (unsigned_abs x) (unsigned_abs y) (unsigned_abs z) table)
eight_named n i on x y z [] is e = absurd (omega arith)
eight_named n i on x y z (a ∷ []) is e = absurd (omega arith)
eight_named n i on x y z (a ∷ b ∷ []) is e = absurd (omega arith)
eight_named n i on x y z (a ∷ b ∷ c ∷ []) is e = absurd (omega arith)
eight_named n i on x y z (a ∷ b ∷ c ∷ d ∷ []) is e = absurd (omega arith)
eight_named n i on x y z (a ∷ b ∷ c ∷ d ∷ p ∷ []) is e = absurd (omega arith)
eight_named n i on x y z (a ∷ b ∷ c ∷ d ∷ p ∷ q ∷ []) is e = absurd (omega arith)
eight_named n i on x y z (a ∷ b ∷ c ∷ d ∷ p ∷ q ∷ r ∷ []) is e = absurd (omega arith)
eight_named n i on x y z (a ∷ b ∷ c ∷ d ∷ p ∷ q ∷ r ∷ s ∷ []) is e = rw is refl
eight_named n i on x y z (a ∷ b ∷ c ∷ d ∷ p ∷ q ∷ r ∷ s ∷ k ∷ table) is e = absurd (omega arith)

-- a list of three, by its elements
pub three_listed : (zs : List ℤ) (d : ℤ) → length zs ≡ 3 → zs ≡ get_or zs 0 d ∷ get_or zs 1 d ∷ get_or zs 2 d ∷ []
three_listed [] d e = absurd (omega arith)
three_listed (x ∷ []) d e = absurd (omega arith)
three_listed (x ∷ y ∷ []) d e = absurd (omega arith)
three_listed (x ∷ y ∷ z ∷ []) d e = refl
three_listed (x ∷ y ∷ z ∷ w ∷ zs) d e = absurd (omega arith)
