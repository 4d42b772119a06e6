-- Reading a list of pairs, item by item.
use Rattle.std.proofs.Common.{◌≡◌, ℕ, ◌+◌, ◌<◌, ◌≤◌, List, [], ◌∷◌, ◌++◌, length, length-append, get_or, drop, map, nat_le, true, false, Some, Result, Ok, Err, refl, ap, ◌∙◌, arith, append_assoc}
use Rattle.std.proofs.lemmas.List.{drop_more}
use Rattle.std.proofs.lemmas.Bool.Decides.{nat_tests}
use Rattle.toml.specs.Data.{Data, Members, as_array, get_member}
use Rattle.toml.specs.View.{items_view, view}
use Rattle.toml.specs.declared.value.Value.{Value}
use Rattle.label_field.specs.declared.pair.Pair.{Pair}
use Rattle.label_field.specs.Limits.{pair_limit}
use Rattle.label_field.specs.PairLists.{PairList}
use Rattle.problem_files.specs.LabelFieldNames.{and_then, field_name}
use Rattle.problem_files.specs.Gains.{Gains}
use Rattle.problem_files.specs.PairFields.{pair_at, pairs_from, pairs_in}
use Rattle.problem_files.specs.declared.label_fault.LabelKey.TheVariants.{Pairs}
use Rattle.problem_files.specs.declared.label_fault.LabelFault.{LabelFault}
use Rattle.problem_files.specs.declared.label_fault.LabelFault.TheVariants.{TooManyPairs}
use Rattle.problem_files.proofs.Listed.{items, length_viewed}

-- the pairs that are in the list, and those that the items from place i on name
abbrev pub with_rest : List Pair → Result (List Pair) LabelFault → Result (List Pair) LabelFault
with_rest done rest = and_then rest (λ pairs. Ok (done ++ pairs))

-- the list has the same sites, and has read the items below place i
pub record HasRead (start now : PairList) (vs : List Value) (i : ℕ) : Type 0 where
  pub count : length now.list ≡ i
  pub same : now ≡ record start { list = now.list }
  pub whole : pairs_from start.sites 0 (map view vs) ≡ with_rest now.list (pairs_from start.sites i (map view (drop i vs)))

record IsStep (start now new : PairList) (due : Result Pair LabelFault) (rest : Result (List Pair) LabelFault) : Type 0 where
  count : length new.list ≡ length now.list + 1
  same : new ≡ record start { list = new.list }
  whole : with_rest now.list (and_then due (λ pair. and_then rest (λ pairs. Ok (pair ∷ pairs)))) ≡ with_rest new.list rest

gained_one : (start now new : PairList) (pair : Pair) (rest : Result (List Pair) LabelFault) → now ≡ record start { list = now.list }
    → new ≡ record now { list = now.list ++ pair ∷ [] } → IsStep start now new (Ok pair) rest
gained_one start now new pair (Err fault) same more = record { count = rw more (length-append now.list (pair ∷ [])); same = cc; whole = refl }
gained_one start now new pair (Ok pairs) same more = record { count = rw more (length-append now.list (pair ∷ [])); same = cc; whole = rw (more, append_assoc) refl }

gained_due : (start now new : PairList) (due : Result Pair LabelFault) (rest : Result (List Pair) LabelFault) → now ≡ record start { list = now.list }
    → Gains now new due → IsStep start now new due rest
gained_due start now new (Err fault) rest same gain = absurd gain
gained_due start now new (Ok pair) rest same gain = gained_one start now new pair rest same gain

drop_here : (vs : List Value) (i : ℕ) (v : Value) → i < length vs → v ≡ get_or vs i v → map view (drop i vs) ≡ view v ∷ map view (drop (i + 1) vs)
drop_here vs i v within at = rw (drop_more vs i v within, ← at) refl

pub read_step : (start now new : PairList) (vs : List Value) (i : ℕ) (v : Value) → i < length vs → v ≡ get_or vs i v → HasRead start now vs i
    → Gains now new (pair_at now.sites i (view v)) → HasRead start new vs (i + 1)
read_step start now new vs i v within at read gain =
    let step = gained_due start now new (pair_at now.sites i (view v)) (pairs_from start.sites (i + 1) (map view (drop (i + 1) vs))) read.same gain in
    let sites : now.sites ≡ start.sites = ap (λ (e : PairList). e.sites) read.same in
    let here : pairs_from start.sites i (map view (drop i vs))
    ≡ and_then (pair_at now.sites i (view v)) (λ pair. and_then (pairs_from start.sites (i + 1) (map view (drop (i + 1) vs))) (λ pairs. Ok (pair ∷ pairs)))
    = rw (drop_here vs i v within at, sites) refl in
    record { count = omega (arith, step.count, read.count); same = step.same; whole = read.whole ∙ ap (with_rest now.list) here ∙ step.whole }

-- the pairs of a table are those of the array that it has
pub pairs_found : (n : ℕ) (ms : Members) (d : Data) (vs : List Value) → Some d ≡ get_member (field_name Pairs) ms → Some (items_view vs) ≡ as_array d
    → length vs ≤ pair_limit → pairs_in ms n ≡ pairs_from n 0 (map view vs)
unfolding pairs_in
pairs_found n ms d vs at is few =
    let test : nat_le (length (map view vs)) pair_limit ≡ true = rw (length_viewed vs) (grind (arith, nat_tests)) in
    rw (← at, ← is, items vs, test) refl

pub too_many_pairs : (n : ℕ) (ms : Members) (d : Data) (vs : List Value) → Some d ≡ get_member (field_name Pairs) ms → Some (items_view vs) ≡ as_array d
    → pair_limit < length vs → pairs_in ms n ≡ Err TooManyPairs
unfolding pairs_in
too_many_pairs n ms d vs at is many =
    let test : nat_le (length (map view vs)) pair_limit ≡ false = rw (length_viewed vs) (grind (arith, nat_tests)) in
    rw (← at, ← is, items vs, test) refl
