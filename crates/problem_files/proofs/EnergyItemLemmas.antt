-- Reading a list of terms, item by item.
use Rattle.std.proofs.Common.{◌≡◌, ℕ, ◌+◌, ◌<◌, ◌≤◌, List, [], ◌∷◌, ◌++◌, length, length-append, append-nil, nat_le, true, false, codes, Some, get_or, drop, Result, Ok, Err, refl, ap, ◌∙◌, arith, append_assoc, suc}
use Rattle.std.proofs.lemmas.Bool.Decides.{nat_tests}
use Rattle.std.proofs.lemmas.List.{drop_all}
use Rattle.toml.specs.Data.{Data, Members, as_array, get_member}
use Rattle.toml.specs.View.{items_view, view}
use Rattle.toml.specs.declared.value.Value.{Value}
use Rattle.toml.proofs.Views.{items_view-drop}
use Rattle.pseudo_bool.specs.Limits.{term_limit}
use Rattle.pseudo_bool.specs.declared.term.Term.{Term}
use Rattle.pseudo_bool.specs.Energies.{Energy}
use Rattle.problem_files.specs.declared.energy_fault.EnergyFault.{EnergyFault}
use Rattle.problem_files.specs.declared.energy_fault.EnergyFault.TheVariants.{TooManyTerms}
use Rattle.problem_files.specs.Added.{Gains, GainsAll, IsFirstOf}
use Rattle.problem_files.specs.Problem.{and_then, item_count, term_at, terms_from, terms_in}

-- the terms that stand, and those that the items from place i on name
abbrev pub with_rest : List Term → Result (List Term) EnergyFault → Result (List Term) EnergyFault
with_rest done rest = and_then rest (λ terms. Ok (done ++ terms))

-- the energy has the same variables and constant, and has read the items below place i
pub record HasRead (start now : Energy) (vs : List Value) (i : ℕ) : Type 0 where
  pub count : length now.terms ≡ i
  pub same : now ≡ record start { terms = now.terms }
  pub whole : terms_from start.variables 0 (items_view vs) ≡ with_rest now.terms (terms_from start.variables i (items_view (drop i vs)))

-- what a term that is gained leaves of the whole
record IsStep (start now new : Energy) (due : Result Term EnergyFault) (rest : Result (List Term) EnergyFault) : Type 0 where
  count : length new.terms ≡ length now.terms + 1
  same : new ≡ record start { terms = new.terms }
  whole : with_rest now.terms (and_then due (λ term. and_then rest (λ terms. Ok (term ∷ terms)))) ≡ with_rest new.terms rest

gained_one : (start now new : Energy) (term : Term) (rest : Result (List Term) EnergyFault) → now ≡ record start { terms = now.terms }
    → new ≡ record now { terms = now.terms ++ term ∷ [] } → IsStep start now new (Ok term) rest
gained_one start now new term (Err fault) same more = record { count = rw more (length-append now.terms (term ∷ [])); same = cc; whole = refl }
gained_one start now new term (Ok terms) same more = record { count = rw more (length-append now.terms (term ∷ [])); same = cc; whole = rw (more, append_assoc) refl }

gained_due : (start now new : Energy) (due : Result Term EnergyFault) (rest : Result (List Term) EnergyFault) → now ≡ record start { terms = now.terms }
    → Gains now new due → IsStep start now new due rest
gained_due start now new (Err fault) rest same gain = absurd gain
gained_due start now new (Ok term) rest same gain = gained_one start now new term rest same gain

pub read_step : (start now new : Energy) (vs : List Value) (i : ℕ) (v : Value) → i < length vs → v ≡ get_or vs i v → HasRead start now vs i
    → Gains now new (term_at now.variables i (view v)) → HasRead start new vs (i + 1)
read_step start now new vs i v within at read gain =
    let step = gained_due start now new (term_at now.variables i (view v)) (terms_from start.variables (i + 1) (items_view (drop (i + 1) vs))) read.same gain in
    let variables : now.variables ≡ start.variables = ap (λ (e : Energy). e.variables) read.same in
    let here : terms_from start.variables i (items_view (drop i vs))
    ≡ and_then (term_at now.variables i (view v)) (λ term. and_then (terms_from start.variables (i + 1) (items_view (drop (i + 1) vs))) (λ terms. Ok (term ∷ terms)))
    = rw (items_view-drop vs i v within, ← at, variables) refl in
    record { count = omega (arith, step.count, read.count); same = step.same; whole = read.whole ∙ ap (with_rest now.terms) here ∙ step.whole }

-- at first no item is read
with_none : (rest : Result (List Term) EnergyFault) → rest ≡ with_rest [] rest
with_none (Err fault) = refl
with_none (Ok terms) = refl

pub none_read : (start : Energy) (vs : List Value) → start.terms ≡ [] → HasRead start start vs 0
none_read start vs empty =
    record { count = rw empty refl; same = refl; whole = rw empty (with_none (terms_from start.variables 0 (items_view vs))) }

-- at the end all are
pub all_read : (start now : Energy) (vs : List Value) (i : ℕ) → start.terms ≡ [] → length vs ≤ i → HasRead start now vs i
    → GainsAll start now (terms_from start.variables 0 (items_view vs))
all_read start now vs i empty over read = rw (read.whole, drop_all i vs over, empty, append-nil) read.same

-- the first fault of an item is that of the whole
pub first_fault : (start now : Energy) (vs : List Value) (i : ℕ) (v : Value) (fault : EnergyFault) → i < length vs → v ≡ get_or vs i v
    → HasRead start now vs i → IsFirstOf (term_at now.variables i (view v)) fault
    → IsFirstOf (terms_from start.variables 0 (items_view vs)) fault
first_fault start now vs i v fault within at read first = λ memory.
    let variables : now.variables ≡ start.variables = ap (λ (e : Energy). e.variables) read.same in
    let found : term_at start.variables i (view v) ≡ Err fault = rw variables at (first memory) in
    rw (read.whole, items_view-drop vs i v within, ← at, found) refl

item_count-items_view : (vs : List Value) → item_count (items_view vs) ≡ length vs
item_count-items_view [] = refl
item_count-items_view (v ∷ vs) = ap (λ n. suc n) (item_count-items_view vs)

-- the terms of a table are those of the array that it has
pub terms_found : (n : ℕ) (ms : Members) (d : Data) (vs : List Value) → Some d ≡ get_member (codes "terms") ms → Some (items_view vs) ≡ as_array d
    → length vs ≤ term_limit → terms_in n ms ≡ terms_from n 0 (items_view vs)
terms_found n ms d vs at is few =
    let test : nat_le (item_count (items_view vs)) term_limit ≡ true = rw (item_count-items_view vs) (grind (arith, nat_tests)) in
    rw (← at, ← is, test) refl

pub too_many_terms : (n : ℕ) (ms : Members) (d : Data) (vs : List Value) → Some d ≡ get_member (codes "terms") ms → Some (items_view vs) ≡ as_array d
    → term_limit < length vs → terms_in n ms ≡ Err TooManyTerms
too_many_terms n ms d vs at is many =
    let test : nat_le (item_count (items_view vs)) term_limit ≡ false = rw (item_count-items_view vs) (grind (arith, nat_tests)) in
    rw (← at, ← is, test) refl
