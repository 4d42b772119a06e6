-- The energy that a table names, or its first fault.
use Rattle.std.specs.Prelude.{ℕ, ◌+◌, ℤ, pos, negsuc, unsigned_abs, Bool, true, false, not, ◌&&◌}
use Rattle.std.specs.Prelude.{nat_le, nat_lt, List, [], ◌∷◌, Option, Some, None, option_and_then}
use Rattle.std.specs.Prelude.{option_map, Result, Ok, Err, codes, zero, suc, if◌then◌else◌}
use Rattle.std.specs.List.{list_all, list_any}
use Rattle.std.specs.Ordering.{int_eq}
use Rattle.toml.specs.Data.{Data, Items, no_items, item, Members, get, get_member, as_array}
use Rattle.toml.specs.Data.{as_integer}
use Rattle.pseudo_bool.specs.Limits.{variable_limit, term_limit, value_limit}
use Rattle.pseudo_bool.specs.declared.term.Term.{Term}
use Rattle.pseudo_bool.specs.declared.term.Term.TheVariants.{One, Two, Three}
use Rattle.pseudo_bool.specs.Energies.{Energy}
use Rattle.problem_files.specs.declared.energy_fault.EnergyFault.{EnergyFault}
use Rattle.problem_files.specs.declared.energy_fault.EnergyFault.TheVariants.{BadField, BadElement}
use Rattle.problem_files.specs.declared.energy_fault.EnergyFault.TheVariants.{NoSuchVariable}
use Rattle.problem_files.specs.declared.energy_fault.EnergyFault.TheVariants.{SameVariable}
use Rattle.problem_files.specs.declared.energy_fault.EnergyFault.TheVariants.{ValueRange}
use Rattle.problem_files.specs.declared.energy_fault.EnergyFault.TheVariants.{ConstantRange}
use Rattle.problem_files.specs.declared.energy_fault.EnergyFault.TheVariants.{TooManyTerms}
use Rattle.problem_files.specs.declared.energy_fault.EnergyKey.TheVariants.{Variables, Constant}
use Rattle.problem_files.specs.declared.energy_fault.EnergyKey.TheVariants.{Terms}

-- what is read next, unless there was a fault
abbrev pub and_then : {A B : Type 0} → Result A EnergyFault → (A → Result B EnergyFault)
    → Result B EnergyFault
and_then (Ok x) next = next x
and_then (Err fault) next = Err fault

-- the integer is a number of one of n variables
abbrev pub is_variable : ℕ → ℤ → Bool
is_variable n (pos x) = nat_lt x n
is_variable n (negsuc x) = false

-- the integer is in the range of a table's numbers
abbrev pub is_value : ℤ → Bool
is_value z = nat_le (unsigned_abs z) value_limit

-- no integer stands twice
abbrev pub is_distinct : List ℤ → Bool
is_distinct [] = true
is_distinct (z ∷ zs) = not (list_any (int_eq z) zs) && is_distinct zs

-- how many variables an integer says there are
abbrev pub variables_from : Option ℤ → Result ℕ EnergyFault
variables_from (Some (pos n)) = if nat_le n variable_limit then Ok n else Err (BadField Variables)
variables_from _ = Err (BadField Variables)

abbrev pub variables_in : Members → Result ℕ EnergyFault
variables_in ms = variables_from (option_and_then as_integer (get_member (codes "variables") ms))

-- the constant that an integer is
abbrev pub constant_from : Option ℤ → Result ℤ EnergyFault
constant_from None = Err (BadField Constant)
constant_from (Some z) = if is_value z then Ok z else Err ConstantRange

abbrev pub constant_at : Option Data → Result ℤ EnergyFault
constant_at None = Ok (pos 0)
constant_at (Some d) = constant_from (as_integer d)

abbrev pub constant_in : Members → Result ℤ EnergyFault
constant_in ms = constant_at (get_member (codes "constant") ms)

-- the term at place i, if its integers name variables, no two the same, and are in range
abbrev pub term_or_fault : ℕ → ℕ → List ℤ → List ℤ → Term → Result Term EnergyFault
term_or_fault n i on values term =
    if not (list_all (is_variable n) on) then Err (NoSuchVariable i)
    else if not (is_distinct on) then Err (SameVariable i)
    else if not (list_all is_value values) then Err (ValueRange i)
    else Ok term

-- the term at place i, over n variables, that lists of integers name
abbrev pub term_from : ℕ → ℕ → List ℤ → List ℤ → Result Term EnergyFault
term_from n i (x ∷ []) (a ∷ b ∷ []) =
    term_or_fault n i (x ∷ []) (a ∷ b ∷ []) (One (unsigned_abs x) (a ∷ b ∷ []))
term_from n i (x ∷ y ∷ []) (a ∷ b ∷ c ∷ d ∷ []) =
    term_or_fault n i (x ∷ y ∷ []) (a ∷ b ∷ c ∷ d ∷ [])
    (Two (unsigned_abs x) (unsigned_abs y) (a ∷ b ∷ c ∷ d ∷ []))
term_from n i (x ∷ y ∷ z ∷ []) (a ∷ b ∷ c ∷ d ∷ e ∷ f ∷ g ∷ h ∷ []) =
    term_or_fault n i (x ∷ y ∷ z ∷ []) (a ∷ b ∷ c ∷ d ∷ e ∷ f ∷ g ∷ h ∷ [])
    (Three (unsigned_abs x) (unsigned_abs y) (unsigned_abs z) (a ∷ b ∷ c ∷ d ∷ e ∷ f ∷ g ∷ h ∷ []))
term_from n i _ _ = Err (BadElement Terms i)

-- the integers of an array that has nothing else
abbrev pub integers_of : Items → Option (List ℤ)
integers_of no_items = Some []
integers_of (item d ds) =
    option_and_then (λ z. option_map (λ zs. z ∷ zs) (integers_of ds)) (as_integer d)

-- the integers of the array at a key
abbrev pub integers_at : List ℕ → Data → Option (List ℤ)
integers_at key d = option_and_then integers_of (option_and_then as_array (get key d))

abbrev pub term_field : ℕ → ℕ → Option (List ℤ) → Option (List ℤ) → Result Term EnergyFault
term_field n i (Some on) (Some values) = term_from n i on values
term_field n i _ _ = Err (BadElement Terms i)

-- the term that the item at place i names
abbrev pub term_at : ℕ → ℕ → Data → Result Term EnergyFault
term_at n i d = term_field n i (integers_at (codes "on") d) (integers_at (codes "values") d)

-- the terms that the items from place i on name
abbrev pub terms_from : ℕ → ℕ → Items → Result (List Term) EnergyFault
terms_from n i no_items = Ok []
terms_from n i (item d ds) =
    and_then (term_at n i d)
    (λ term. and_then (terms_from n (i + 1) ds) (λ terms. Ok (term ∷ terms)))

abbrev pub item_count : Items → ℕ
item_count no_items = zero
item_count (item d ds) = suc (item_count ds)

abbrev pub terms_or_fault : ℕ → Option Items → Result (List Term) EnergyFault
terms_or_fault n None = Err (BadField Terms)
terms_or_fault n (Some ds) =
    if nat_le (item_count ds) term_limit then terms_from n 0 ds else Err TooManyTerms

abbrev pub terms_at : ℕ → Option Data → Result (List Term) EnergyFault
terms_at n None = Ok []
terms_at n (Some d) = terms_or_fault n (as_array d)

abbrev pub terms_in : ℕ → Members → Result (List Term) EnergyFault
terms_in n ms = terms_at n (get_member (codes "terms") ms)

-- the energy that a table names
abbrev pub energy_of_table : Members → Result Energy EnergyFault
energy_of_table ms =
    and_then (variables_in ms) (λ variables.
    and_then (constant_in ms) (λ constant.
    and_then (terms_in variables ms) (λ terms.
    Ok (record { constant = constant; variables = variables; terms = terms }))))
