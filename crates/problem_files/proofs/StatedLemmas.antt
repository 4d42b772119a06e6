-- An energy that a table names is one that it states.
use Rattle.std.proofs.Common.{◌≡◌, ℕ, ◌+◌, Bool, true, false, not, ◌&&◌, nat_le, List, [], ◌∷◌, ℤ, pos, negsuc, unsigned_abs, Result, Ok, Err, IfOk, Option, Some, None, option_and_then, option_map, codes, refl, ap, if◌then◌else◌}
use Rattle.std.specs.List.{list_all}
use Rattle.std.proofs.lemmas.Bool.{and_parts}
use Rattle.toml.specs.Data.{Data, integer, array, Items, no_items, item, Members, as_array, as_integer, get, get_member}
use Rattle.pseudo_bool.specs.Limits.{variable_limit, term_limit}
use Rattle.pseudo_bool.specs.declared.term.Term.{Term}
use Rattle.pseudo_bool.specs.declared.term.Term.TheVariants.{One, Two, Three}
use Rattle.pseudo_bool.specs.Energies.{Energy}
use Rattle.problem_files.specs.declared.energy_fault.EnergyFault.{EnergyFault}
use Rattle.problem_files.specs.declared.energy_fault.EnergyFault.TheVariants.{NoSuchVariable, SameVariable, ValueRange}
use Rattle.problem_files.specs.Problem.{and_then, term_or_fault, constant_at, constant_in, integers_at, integers_of, is_distinct, is_value, is_variable, item_count, energy_of_table, term_at, term_from, term_field, terms_at, terms_from, terms_in, variables_from, variables_in}
use Rattle.toml.specs.Parse.{parse_document}
use Rattle.problem_files.specs.Text.{TextStates, energy_in, named_by}
use Rattle.problem_files.specs.Stated.{States, StatesConstant, StateEach, StatesList, StatesTerm, integers}

-- a step that has no fault
record IsStepped {A B : Type 0} (r : Result A EnergyFault) (next : A → Result B EnergyFault) (b : B) : Type 0 where
  value : A
  is : r ≡ Ok value
  rest : next value ≡ Ok b

stepped : {A B : Type 0} (r : Result A EnergyFault) (next : A → Result B EnergyFault) (b : B) → and_then r next ≡ Ok b → IsStepped r next b
stepped (Ok x) next b e = record { value = x; is = refl; rest = e }
stepped (Err fault) next b e = absurd (let no = e in cc)

if_kept : {A : Type 0} (test : Bool) (x y : A) (fault : EnergyFault) → (if test then Ok x else Err fault) ≡ Ok y → x ≡ y
if_kept true x y fault e = cc
if_kept false x y fault e = absurd (let no = e in cc)

one_more : (z : ℤ) (ds : Items) (o : Option (List ℤ)) (zs : List ℤ) → ((ys : List ℤ) → o ≡ Some ys → ds ≡ integers ys)
    → option_map (λ ys. z ∷ ys) o ≡ Some zs → item (integer z) ds ≡ integers zs
one_more z ds None zs h e = absurd (let no = e in cc)
one_more z ds (Some ys) zs h e = let is : zs ≡ z ∷ ys = cc in rw is (ap (item (integer z)) (h ys refl))

pub integers_back : (ds : Items) (zs : List ℤ) → integers_of ds ≡ Some zs → ds ≡ integers zs
integers_back no_items zs e = let is : zs ≡ [] = cc in rw is refl
integers_back (item (integer z) ds) zs e = one_more z ds (integers_of ds) zs (integers_back ds) e
integers_back (item _ ds) zs e = absurd (let no = e in cc)

array_back : (o : Option Data) (zs : List ℤ) → option_and_then integers_of (option_and_then as_array o) ≡ Some zs → o ≡ Some (array (integers zs))
array_back None zs e = absurd (let no = e in cc)
array_back (Some (array ds)) zs e = ap (λ items. Some (array items)) (integers_back ds zs e)
array_back (Some _) zs e = absurd (let no = e in cc)

variable_back : (n : ℕ) (z : ℤ) → is_variable n z ≡ true → z ≡ pos (unsigned_abs z)
variable_back n (pos x) e = refl
variable_back n (negsuc x) e = absurd (let no = e in cc)

record IsChecked (n : ℕ) (on : List ℤ) (term found : Term) : Type 0 where
  known : list_all (is_variable n) on ≡ true
  same : found ≡ term

checked_by : (known distinct small : Bool) (a b c : EnergyFault) (term found : Term)
    → (if not known then Err a else if not distinct then Err b else if not small then Err c else Ok term) ≡ Ok found → (known ≡ true) × (found ≡ term)
checked_by true true true a b c term found e = (refl, cc)
checked_by true true false a b c term found e = absurd (let no = e in cc)
checked_by true false small a b c term found e = absurd (let no = e in cc)
checked_by false distinct small a b c term found e = absurd (let no = e in cc)

-- the lists are the variables and the table of the term
abbrev IsListed : List ℤ → List ℤ → Term → Type 0
IsListed on values (One x table) = (on ≡ pos x ∷ []) × (values ≡ table)
IsListed on values (Two x y table) = (on ≡ pos x ∷ pos y ∷ []) × (values ≡ table)
IsListed on values (Three x y z table) = (on ≡ pos x ∷ pos y ∷ pos z ∷ []) × (values ≡ table)

one_listed : (n i : ℕ) (x : ℤ) (values : List ℤ) (found : Term) → term_or_fault n i (x ∷ []) values (One (unsigned_abs x) values) ≡ Ok found → IsListed (x ∷ []) values found
one_listed n i x values found e =
    let (known, same) = checked_by (list_all (is_variable n) (x ∷ [])) (is_distinct (x ∷ [])) (list_all is_value values) (NoSuchVariable i) (SameVariable i) (ValueRange i) (One (unsigned_abs x) values) found e in
    let here = and_parts (is_variable n x) true known in
    rw same (ap (λ z. z ∷ []) (variable_back n x here.0), refl)

two_listed : (n i : ℕ) (x y : ℤ) (values : List ℤ) (found : Term) → term_or_fault n i (x ∷ y ∷ []) values (Two (unsigned_abs x) (unsigned_abs y) values) ≡ Ok found → IsListed (x ∷ y ∷ []) values found
two_listed n i x y values found e =
    let (known, same) = checked_by (list_all (is_variable n) (x ∷ y ∷ [])) (is_distinct (x ∷ y ∷ [])) (list_all is_value values) (NoSuchVariable i) (SameVariable i) (ValueRange i) (Two (unsigned_abs x) (unsigned_abs y) values) found e in
    let first = and_parts (is_variable n x) (is_variable n y && true) known in
    let second = and_parts (is_variable n y) true first.1 in
    let first_is = variable_back n x first.0 in
    let second_is = variable_back n y second.0 in
    rw same (cc, refl)

three_listed : (n i : ℕ) (x y z : ℤ) (values : List ℤ) (found : Term)
    → term_or_fault n i (x ∷ y ∷ z ∷ []) values (Three (unsigned_abs x) (unsigned_abs y) (unsigned_abs z) values) ≡ Ok found → IsListed (x ∷ y ∷ z ∷ []) values found
three_listed n i x y z values found e =
    let (known, same) = checked_by (list_all (is_variable n) (x ∷ y ∷ z ∷ [])) (is_distinct (x ∷ y ∷ z ∷ [])) (list_all is_value values) (NoSuchVariable i) (SameVariable i) (ValueRange i) (Three (unsigned_abs x) (unsigned_abs y) (unsigned_abs z) values) found e in
    let first = and_parts (is_variable n x) (is_variable n y && (is_variable n z && true)) known in
    let second = and_parts (is_variable n y) (is_variable n z && true) first.1 in
    let third = and_parts (is_variable n z) true second.1 in
    let first_is = variable_back n x first.0 in
    let second_is = variable_back n y second.0 in
    let third_is = variable_back n z third.0 in
    rw same (cc, refl)

-- a table of three variables has eight numbers
eight_listed : (n i : ℕ) (x y z : ℤ) (values : List ℤ) (found : Term) → term_from n i (x ∷ y ∷ z ∷ []) values ≡ Ok found → IsListed (x ∷ y ∷ z ∷ []) values found
eight_listed n i x y z [] found e = absurd (let no = e in cc)
eight_listed n i x y z (a ∷ []) found e = absurd (let no = e in cc)
eight_listed n i x y z (a ∷ b ∷ []) found e = absurd (let no = e in cc)
eight_listed n i x y z (a ∷ b ∷ c ∷ []) found e = absurd (let no = e in cc)
eight_listed n i x y z (a ∷ b ∷ c ∷ d ∷ []) found e = absurd (let no = e in cc)
eight_listed n i x y z (a ∷ b ∷ c ∷ d ∷ p ∷ []) found e = absurd (let no = e in cc)
eight_listed n i x y z (a ∷ b ∷ c ∷ d ∷ p ∷ q ∷ []) found e = absurd (let no = e in cc)
eight_listed n i x y z (a ∷ b ∷ c ∷ d ∷ p ∷ q ∷ r ∷ []) found e = absurd (let no = e in cc)
eight_listed n i x y z (a ∷ b ∷ c ∷ d ∷ p ∷ q ∷ r ∷ s ∷ []) found e = three_listed n i x y z (a ∷ b ∷ c ∷ d ∷ p ∷ q ∷ r ∷ s ∷ []) found e
eight_listed n i x y z (a ∷ b ∷ c ∷ d ∷ p ∷ q ∷ r ∷ s ∷ k ∷ values) found e = absurd (let no = e in cc)

listed : (n i : ℕ) (on values : List ℤ) (found : Term) → term_from n i on values ≡ Ok found → IsListed on values found
listed n i [] values found e = absurd (let no = e in cc)
listed n i (x ∷ []) [] found e = absurd (let no = e in cc)
listed n i (x ∷ []) (a ∷ []) found e = absurd (let no = e in cc)
listed n i (x ∷ []) (a ∷ b ∷ []) found e = one_listed n i x (a ∷ b ∷ []) found e
listed n i (x ∷ []) (a ∷ b ∷ c ∷ values) found e = absurd (let no = e in cc)
listed n i (x ∷ y ∷ []) [] found e = absurd (let no = e in cc)
listed n i (x ∷ y ∷ []) (a ∷ []) found e = absurd (let no = e in cc)
listed n i (x ∷ y ∷ []) (a ∷ b ∷ []) found e = absurd (let no = e in cc)
listed n i (x ∷ y ∷ []) (a ∷ b ∷ c ∷ []) found e = absurd (let no = e in cc)
listed n i (x ∷ y ∷ []) (a ∷ b ∷ c ∷ d ∷ []) found e = two_listed n i x y (a ∷ b ∷ c ∷ d ∷ []) found e
listed n i (x ∷ y ∷ []) (a ∷ b ∷ c ∷ d ∷ k ∷ values) found e = absurd (let no = e in cc)
listed n i (x ∷ y ∷ z ∷ []) values found e = eight_listed n i x y z values found e
listed n i (x ∷ y ∷ z ∷ w ∷ on) values found e = absurd (let no = e in cc)

placed : (d : Data) (on values : List ℤ) (term : Term) → get (codes "on") d ≡ Some (array (integers on)) → get (codes "values") d ≡ Some (array (integers values))
    → IsListed on values term → StatesTerm d term
placed d on values (One x table) at_on at_values h = (rw h.0 at at_on, rw h.1 at at_values)
placed d on values (Two x y table) at_on at_values h = (rw h.0 at at_on, rw h.1 at at_values)
placed d on values (Three x y z table) at_on at_values h = (rw h.0 at at_on, rw h.1 at at_values)

term_by : (n i : ℕ) (d : Data) (on values : Option (List ℤ)) (term : Term) → integers_at (codes "on") d ≡ on → integers_at (codes "values") d ≡ values
    → term_field n i on values ≡ Ok term → StatesTerm d term
term_by n i d None values term at_on at_values e = absurd (let no = e in cc)
term_by n i d (Some on) None term at_on at_values e = absurd (let no = e in cc)
term_by n i d (Some on) (Some values) term at_on at_values e =
    placed d on values term (array_back (get (codes "on") d) on at_on) (array_back (get (codes "values") d) values at_values) (listed n i on values term e)

terms_back : (n i : ℕ) (ds : Items) (terms : List Term) → terms_from n i ds ≡ Ok terms → StateEach StatesTerm ds terms
terms_back n i no_items terms e = let is : terms ≡ [] = cc in rw is tt
terms_back n i (item d ds) terms e =
    let first = stepped (term_at n i d) (λ term. and_then (terms_from n (i + 1) ds) (λ more. Ok (term ∷ more))) terms e in
    let second = stepped (terms_from n (i + 1) ds) (λ more. Ok (first.value ∷ more)) terms first.rest in
    let made = second.rest in
    let is : terms ≡ first.value ∷ second.value = cc in
    rw is (term_by n i d _ _ first.value refl refl first.is, terms_back n (i + 1) ds second.value second.is)

chosen : {A : Type 0} (test : Bool) (r : Result A EnergyFault) (fault : EnergyFault) (x : A) → (if test then r else Err fault) ≡ Ok x → r ≡ Ok x
chosen true r fault x e = e
chosen false r fault x e = absurd (let no = e in cc)

list_back : (n : ℕ) (o : Option Data) (terms : List Term) → terms_at n o ≡ Ok terms → StatesList StatesTerm o terms
list_back n None terms e = cc
list_back n (Some (array ds)) terms e = (ds, refl, terms_back n 0 ds terms (chosen (nat_le (item_count ds) term_limit) (terms_from n 0 ds) _ terms e))
list_back n (Some _) terms e = absurd (let no = e in cc)

constant_back : (o : Option Data) (constant : ℤ) → constant_at o ≡ Ok constant → StatesConstant o constant
constant_back None constant e = cc
constant_back (Some (integer z)) constant e = ap integer (if_kept (is_value z) z constant _ e)
constant_back (Some _) constant e = absurd (let no = e in cc)

variables_back : (o : Option Data) (n : ℕ) → variables_from (option_and_then as_integer o) ≡ Ok n → o ≡ Some (integer (pos n))
variables_back None n e = absurd (let no = e in cc)
variables_back (Some (integer (pos m))) n e = ap (λ k. Some (integer (pos k))) (if_kept (nat_le m variable_limit) m n _ e)
variables_back (Some (integer (negsuc m))) n e = absurd (let no = e in cc)
variables_back (Some _) n e = absurd (let no = e in cc)

pub stated : (ms : Members) (e : Energy) → energy_of_table ms ≡ Ok e → States ms e
stated ms e named =
    let first = stepped (variables_in ms) (λ variables. and_then (constant_in ms) (λ constant. and_then (terms_in variables ms) (λ terms.
    Ok (record { constant = constant; variables = variables; terms = terms })))) e named in
    let second = stepped (constant_in ms) (λ constant. and_then (terms_in first.value ms) (λ terms.
    Ok (record { constant = constant; variables = first.value; terms = terms }))) e first.rest in
    let third = stepped (terms_in first.value ms) (λ terms. Ok (record { constant = second.value; variables = first.value; terms = terms })) e second.rest in
    let made = third.rest in
    let is : e ≡ record { constant = second.value; variables = first.value; terms = third.value } = cc in
    rw is (record {
      variables = variables_back (get_member (codes "variables") ms) first.value first.is;
      constant = constant_back (get_member (codes "constant") ms) second.value second.is;
      terms = list_back first.value (get_member (codes "terms") ms) third.value third.is;
    })

of_document : (o : Option Members) (e : Energy) → named_by o ≡ Ok e → (ms : Members) × (o ≡ Some ms) × States ms e
of_document None e named = absurd (let no = named in cc)
of_document (Some ms) e named = (ms, refl, stated ms e named)

-- and so is one that a text names
pub all_texts : (bytes : List ℕ) (r : Result Energy EnergyFault) → IfOk r (λ e. energy_in bytes ≡ Ok e) → IfOk r (TextStates bytes)
all_texts bytes (Ok e) named = of_document (parse_document bytes) e named
all_texts bytes (Err fault) named = tt
