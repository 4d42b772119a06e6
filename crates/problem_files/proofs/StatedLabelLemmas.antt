-- A problem of labels that a table names is one that it states.
use Rattle.std.proofs.Common.{◌≡◌, ◌∙◌, ◌⊎◌, ℕ, ◌+◌, ◌-◌, ◌*◌, Bool, true, false, not, ◌&&◌, nat_lt, nat_le, List, [], ◌∷◌, length, map, replicate, ℤ, pos, negsuc, unsigned_abs, int_le, Option, Some, None, option_map, option_and_then, Result, Ok, Err, IfOk, codes, if◌then◌else◌, inl, inr, refl, sym, ap, subst}
use Rattle.std.specs.Str.{bytes_eq}
use Rattle.std.specs.Ordering.{int_eq}
use Rattle.std.proofs.lemmas.Slice.Eq.{bytes_eq-Decides}
use Rattle.toml.specs.Data.{Data, string, integer, float, boolean, datetime, array, table, Items, no_items, item, Members, as_array, as_str, get_member}
use Rattle.toml.specs.Parse.{parse_document}
use Rattle.label_field.specs.LabelFields.{LabelField}
use Rattle.label_field.specs.Limits.{label_limit, pair_limit, site_limit}
use Rattle.label_field.specs.declared.pair.Pair.{Pair}
use Rattle.label_energies.specs.Names.{moves_named}
use Rattle.label_energies.specs.declared.cycles.Moves.{Moves}
use Rattle.label_energies.specs.declared.cycles.Moves.TheVariants.{Expansion, Swap}
use Rattle.run_options.specs.Limits.{cycle_limit, greatest_data_cost, greatest_label_cost, greatest_smooth_cost, trunc_limit}
use Rattle.run_options.specs.Names.{shape_named}
use Rattle.run_options.specs.Shapes.{shape_table}
use Rattle.run_options.specs.declared.shape.Shape.{Shape}
use Rattle.run_options.specs.declared.shape.Shape.TheVariants.{Potts, Linear, Quadratic}
use Rattle.problem_files.specs.LabelCostFields.{label_costs_at, label_costs_from, label_costs_in}
use Rattle.problem_files.specs.LabelFieldNames.{and_then, field_name}
use Rattle.problem_files.specs.ListFields.{data_at, data_from, data_in, integer_of, list_from, list_of, natural_of}
use Rattle.problem_files.specs.MoveFields.{moves_at, moves_from, moves_in, moves_or_fault, moves_text}
use Rattle.problem_files.specs.Names.{Problem, named_by, problem_of_table, names_rest, problem_in, problem_view}
use Rattle.problem_files.specs.declared.label_problem.LabelProblem.{LabelProblem}
use Rattle.problem_files.specs.NumberFields.{number_field, number_in, number_or}
use Rattle.problem_files.specs.PairFields.{is_site, is_weight, pair_at, pair_field, pair_with, pairs_field, pairs_from, pairs_in, pairs_listed, pairs_or_fault}
use Rattle.problem_files.specs.Problem.{integers_of}
use Rattle.problem_files.specs.SmoothFields.{listed_from, smooth_at, smooth_from, smooth_in, table_named}
use Rattle.problem_files.specs.StartFields.{start_field, start_from, start_in}
use Rattle.problem_files.specs.Stated.{StateEach, StatesList, integers}
use Rattle.problem_files.specs.StatedLabels.{StatesCosts, StatesLabelCosts, StatesMoves, StatesNumber, StatesNumbers, StatesPair, StatesProblem, StatesSmooth, StatesStart, TextStatesProblem}
use Rattle.problem_files.specs.declared.label_fault.LabelKey.TheVariants as field
use Rattle.problem_files.specs.declared.label_fault.LabelFault.{LabelFault}
use Rattle.problem_files.specs.declared.label_fault.LabelFault.TheVariants.{BadElement, BadField, NoSuchSite, SamePair, TooManyPairs, WeightRange}
use Rattle.problem_files.proofs.LimitLemmas.{if_ok, then_ok}
use Rattle.problem_files.proofs.StatedLemmas.{integers_back}
use Rattle.problem_files.proofs.StatedListLemmas.{IsList, list_back, needed_back, number_stated}

needed_stated : (ms : Members) (n : ℕ) → number_in ms field.Sites 0 site_limit ≡ Ok n → get_member (codes "sites") ms ≡ Some (integer (pos n))
unfolding number_in
needed_stated ms n e = needed_back (BadField field.Sites) field.Sites 0 site_limit (get_member (codes "sites") ms) n e

labels_stated : (ms : Members) (n : ℕ) → number_in ms field.Labels 1 label_limit ≡ Ok n → get_member (codes "labels") ms ≡ Some (integer (pos n))
unfolding number_in
labels_stated ms n e = needed_back (BadField field.Labels) field.Labels 1 label_limit (get_member (codes "labels") ms) n e

trunc_stated : (ms : Members) (n : ℕ) → number_or ms field.Trunc 1 trunc_limit 1 ≡ Ok n → StatesNumber (get_member (codes "trunc") ms) 1 n
unfolding number_or
trunc_stated ms n e = number_stated field.Trunc 1 trunc_limit 1 (get_member (codes "trunc") ms) n e

cycles_stated : (ms : Members) (n : ℕ) → number_or ms field.Cycles 0 cycle_limit 100 ≡ Ok n → StatesNumber (get_member (codes "cycles") ms) 100 n
unfolding number_or
cycles_stated ms n e = number_stated field.Cycles 0 cycle_limit 100 (get_member (codes "cycles") ms) n e

data_from_stated : (count : ℕ) (d : Data) (costs : List ℕ) → data_from count d ≡ Ok costs → StatesNumbers d costs
unfolding data_from
data_from_stated count d costs e =
    let (ds, read, made) = then_ok (list_from field.Data count greatest_data_cost d) (λ ds. Ok (map natural_of ds)) costs e in
    let same : map natural_of ds ≡ costs = let is = made in cc in
    let P : List ℕ → Type 0 = λ ns. StatesNumbers d ns in
    subst P same (list_back field.Data count greatest_data_cost d ds read).numbers

data_at_stated : (count : ℕ) (o : Option Data) (costs : List ℕ) → data_at count o ≡ Ok costs → (d : Data) × (o ≡ Some d) × StatesNumbers d costs
data_at_stated count None costs e = absurd (let never = e in cc)
data_at_stated count (Some d) costs e = (d, refl, data_from_stated count d costs e)

data_stated : (ms : Members) (count : ℕ) (costs : List ℕ) → data_in ms count ≡ Ok costs
    → (d : Data) × (get_member (codes "data") ms ≡ Some d) × StatesNumbers d costs
unfolding data_in
data_stated ms count costs e = data_at_stated count (get_member (codes "data") ms) costs e

-- which of the names a text is
named_shape : (a b c : Bool) (s : Shape) → (if a then Some Potts else if b then Some Linear else if c then Some Quadratic else None) ≡ Some s
    → ((a ≡ true) × (s ≡ Potts)) ⊎ (((b ≡ true) × (s ≡ Linear)) ⊎ ((c ≡ true) × (s ≡ Quadratic)))
named_shape true b c s e = inl (refl, cc)
named_shape false true c s e = inr (inl (refl, cc))
named_shape false false true s e = inr (inr (refl, cc))
named_shape false false false s e = absurd (let never = e in cc)

is_text : (name other : List ℕ) → bytes_eq name other ≡ true → name ≡ other
is_text name other e = (bytes_eq-Decides name other).0 e

shape_stated : (k most : ℕ) (name : List ℕ) (costs : List ℤ) (s : Shape) → shape_named name ≡ Some s → costs ≡ shape_table s k most
    → StatesSmooth (Some (string name)) most k costs
shape_stated k most name costs s e is =
    elim (named_shape (bytes_eq name (codes "potts")) (bytes_eq name (codes "linear")) (bytes_eq name (codes "quadratic")) s e) [
      | inl h ↦ inl (ap string (is_text name (codes "potts") h.0), rw (← h.1) is)
      | inr more ↦ elim more [
        | inl h ↦ inr (inl (ap string (is_text name (codes "linear") h.0), rw (← h.1) is))
        | inr h ↦ inr (inr (inl (ap string (is_text name (codes "quadratic") h.0), rw (← h.1) is)))
      ]
    ]

name_stated : (k most : ℕ) (name : List ℕ) (o : Option Shape) (f : ℕ → List ℤ) → shape_named name ≡ o → table_named k o ≡ Ok f
    → StatesSmooth (Some (string name)) most k (f most)
name_stated k most name None f is e = absurd (let never = e in cc)
name_stated k most name (Some s) f is e =
    let same : shape_table s k ≡ f = let made = e in cc in
    shape_stated k most name (f most) s is (ap (λ g. g most) (sym same))

list_stated : (k most : ℕ) (d : Data) (f : ℕ → List ℤ) → listed_from k d ≡ Ok f → StatesSmooth (Some d) most k (f most)
unfolding listed_from
list_stated k most d f e =
    let (ds, read, made) = then_ok (list_from field.Smooth (k * k) greatest_smooth_cost d) (λ ds. Ok (λ most. map integer_of ds)) f e in
    let g : ℕ → List ℤ = λ most. map integer_of ds in
    let same : g ≡ f = let is = made in cc in
    let P : (ℕ → List ℤ) → Type 0 = λ h. StatesSmooth (Some d) most k (h most) in
    subst P same (inr (inr (inr (list_back field.Smooth (k * k) greatest_smooth_cost d ds read).is)))

smooth_from_stated : (k most : ℕ) (d : Data) (f : ℕ → List ℤ) → smooth_from k d ≡ Ok f → StatesSmooth (Some d) most k (f most)
unfolding smooth_from
smooth_from_stated k most (string name) f e = name_stated k most name (shape_named name) f refl e
smooth_from_stated k most (integer z) f e = list_stated k most (integer z) f e
smooth_from_stated k most (float x) f e = list_stated k most (float x) f e
smooth_from_stated k most (boolean b) f e = list_stated k most (boolean b) f e
smooth_from_stated k most (datetime t) f e = list_stated k most (datetime t) f e
smooth_from_stated k most (array ds) f e = list_stated k most (array ds) f e
smooth_from_stated k most (table ms) f e = list_stated k most (table ms) f e

smooth_at_stated : (k most : ℕ) (o : Option Data) (f : ℕ → List ℤ) → smooth_at k o ≡ Ok f → StatesSmooth o most k (f most)
smooth_at_stated k most None f e =
    let same : shape_table Potts k ≡ f = let made = e in cc in
    ap (λ g. g most) (sym same)
smooth_at_stated k most (Some d) f e = smooth_from_stated k most d f e

smooth_stated : (ms : Members) (k most : ℕ) (f : ℕ → List ℤ) → smooth_in ms k ≡ Ok f → StatesSmooth (get_member (codes "smooth") ms) most k (f most)
unfolding smooth_in
smooth_stated ms k most f e = smooth_at_stated k most (get_member (codes "smooth") ms) f e

site_back : (n : ℕ) (p : ℤ) → is_site n p ≡ true → p ≡ pos (unsigned_abs p)
site_back n (pos p) e = refl
site_back n (negsuc p) e = absurd (let never = e in cc)

weight_back : (w : ℤ) → is_weight w ≡ true → w ≡ pos (unsigned_abs w)
weight_back (pos w) e = refl
weight_back (negsuc w) e = absurd (let never = e in cc)

-- a pair that passes
pair_by : (first second same small : Bool) (a b c : LabelFault) (pair found : Pair)
    → (if not (first && second) then Err a else if same then Err b else if not small then Err c else Ok pair) ≡ Ok found
    → (first ≡ true) × (second ≡ true) × (small ≡ true) × (found ≡ pair)
pair_by true true false true a b c pair found e = (refl, refl, refl, cc)
pair_by true true false false a b c pair found e = absurd (let never = e in cc)
pair_by true true true small a b c pair found e = absurd (let never = e in cc)
pair_by true false same small a b c pair found e = absurd (let never = e in cc)
pair_by false second same small a b c pair found e = absurd (let never = e in cc)

-- the integers of a pair are its sites and its weight
record IsMadeOf (p q w : ℤ) (pair : Pair) : Type 0 where
  first : p ≡ pos pair.first
  second : q ≡ pos pair.second
  weight : w ≡ pos pair.weight

made_of : (n i : ℕ) (p q w : ℤ) (pair : Pair) → pair_with n i p q w ≡ Ok pair → IsMadeOf p q w pair
unfolding pair_with
made_of n i p q w pair e =
    let (first, second, small, is) = pair_by (is_site n p) (is_site n q) (int_eq p q) (is_weight w) (NoSuchSite i) (SamePair i) (WeightRange i)
    (record { first = unsigned_abs p; second = unsigned_abs q; weight = unsigned_abs w }) pair e in
    let P : Pair → Type 0 = λ x. IsMadeOf p q w x in
    subst P (sym is) (record { first = site_back n p first; second = site_back n q second; weight = weight_back w small })

abs_of : (n m : ℕ) → pos n ≡ pos m → n ≡ m
abs_of n m e = ap unsigned_abs e

pair_stated : (n i : ℕ) (d : Data) (o : Option (List ℤ)) (pair : Pair) → ((zs : List ℤ) → o ≡ Some zs → d ≡ array (integers zs))
    → pair_field n i o ≡ Ok pair → StatesPair d pair
pair_stated n i d None pair is e = absurd (let never = e in cc)
pair_stated n i d (Some []) pair is e = absurd (let never = e in cc)
pair_stated n i d (Some (p ∷ [])) pair is e = absurd (let never = e in cc)
pair_stated n i d (Some (p ∷ q ∷ [])) pair is e =
    let made = made_of n i p q (pos 1) pair e in
    inr (rw (← made.first, ← made.second) (is (p ∷ q ∷ []) refl), sym (abs_of 1 pair.weight made.weight))
pair_stated n i d (Some (p ∷ q ∷ w ∷ [])) pair is e =
    let made = made_of n i p q w pair e in
    inl (rw (← made.first, ← made.second, ← made.weight) (is (p ∷ q ∷ w ∷ []) refl))
pair_stated n i d (Some (p ∷ q ∷ w ∷ x ∷ zs)) pair is e = absurd (let never = e in cc)

array_stated : (o : Option Items) (d : Data) (zs : List ℤ) → ((ds : Items) → o ≡ Some ds → d ≡ array ds) → option_and_then integers_of o ≡ Some zs
    → d ≡ array (integers zs)
array_stated None d zs is e = absurd (let never = e in cc)
array_stated (Some ds) d zs is e = is ds refl ∙ ap array (integers_back ds zs e)

as_array_back : (d : Data) (ds : Items) → as_array d ≡ Some ds → d ≡ array ds
as_array_back (array es) ds e = let is : es ≡ ds = cc in ap array is
as_array_back (string s) ds e = absurd (let never = e in cc)
as_array_back (integer z) ds e = absurd (let never = e in cc)
as_array_back (float x) ds e = absurd (let never = e in cc)
as_array_back (boolean b) ds e = absurd (let never = e in cc)
as_array_back (datetime t) ds e = absurd (let never = e in cc)
as_array_back (table ms) ds e = absurd (let never = e in cc)

pair_at_stated : (n i : ℕ) (d : Data) (pair : Pair) → pair_at n i d ≡ Ok pair → StatesPair d pair
unfolding pair_at
pair_at_stated n i d pair e =
    pair_stated n i d (option_and_then integers_of (as_array d)) pair (λ zs is. array_stated (as_array d) d zs (as_array_back d) is) e

pairs_stated : (n i : ℕ) (ds : Items) (pairs : List Pair) → pairs_from n i (list_of ds) ≡ Ok pairs → StateEach StatesPair ds pairs
pairs_stated n i no_items pairs e = let is : pairs ≡ [] = cc in rw is tt
pairs_stated n i (item d ds) pairs e =
    let (pair, here, more) = then_ok (pair_at n i d) (λ pair. and_then (pairs_from n (i + 1) (list_of ds)) (λ pairs. Ok (pair ∷ pairs))) pairs e in
    let (rest, there, made) = then_ok (pairs_from n (i + 1) (list_of ds)) (λ pairs. Ok (pair ∷ pairs)) pairs more in
    let is : pairs ≡ pair ∷ rest = let h = made in cc in
    rw is (pair_at_stated n i d pair here, pairs_stated n (i + 1) ds rest there)

listed_pairs : (n : ℕ) (o : Option Items) (d : Data) (pairs : List Pair) → ((ds : Items) → o ≡ Some ds → d ≡ array ds)
    → pairs_listed n (option_map list_of o) ≡ Ok pairs → StatesList StatesPair (Some d) pairs
listed_pairs n None d pairs is e = absurd (let never = e in cc)
listed_pairs n (Some ds) d pairs is e =
    let kept = if_ok (nat_le (length (list_of ds)) pair_limit) (pairs_from n 0 (list_of ds)) TooManyPairs pairs e in
    (ds, is ds refl, pairs_stated n 0 ds pairs kept.1)

pairs_at_stated : (n : ℕ) (o : Option Data) (pairs : List Pair) → pairs_field n o ≡ Ok pairs → StatesList StatesPair o pairs
pairs_at_stated n None pairs e = let is : pairs ≡ [] = cc in is
pairs_at_stated n (Some d) pairs e = listed_pairs n (as_array d) d pairs (as_array_back d) e

pair_list_stated : (ms : Members) (n : ℕ) (pairs : List Pair) → pairs_in ms n ≡ Ok pairs → StatesList StatesPair (get_member (codes "pairs") ms) pairs
unfolding pairs_in
pair_list_stated ms n pairs e = pairs_at_stated n (get_member (codes "pairs") ms) pairs e

start_from_stated : (sites labels : ℕ) (d : Data) (start : LabelField) → start_from sites labels d ≡ Ok start → StatesNumbers d start.at
unfolding start_from
start_from_stated sites labels d start e =
    let (ds, read, made) = then_ok (list_from field.Start sites (labels - 1) d) (λ ds. Ok (record { labels = labels; at = map natural_of ds })) start e in
    let same : map natural_of ds ≡ start.at = let is = made in cc in
    let P : List ℕ → Type 0 = λ ns. StatesNumbers d ns in
    subst P same (list_back field.Start sites (labels - 1) d ds read).numbers

start_at_stated : (sites labels : ℕ) (o : Option Data) (start : LabelField) → start_field sites labels o ≡ Ok start → StatesStart o sites start.at
start_at_stated sites labels None start e = cc
start_at_stated sites labels (Some d) start e = start_from_stated sites labels d start e

start_stated : (ms : Members) (sites labels : ℕ) (start : LabelField) → start_in ms sites labels ≡ Ok start
    → StatesStart (get_member (codes "start") ms) sites start.at
unfolding start_in
start_stated ms sites labels start e = start_at_stated sites labels (get_member (codes "start") ms) start e

named_moves : (a b : Bool) (m : Moves) → moves_or_fault (if a then Some Expansion else if b then Some Swap else None) ≡ Ok m
    → ((a ≡ true) × (m ≡ Expansion)) ⊎ ((b ≡ true) × (m ≡ Swap))
named_moves true b m e = inl (refl, cc)
named_moves false true m e = inr (refl, cc)
named_moves false false m e = absurd (let never = e in cc)

moves_from_stated : (d : Data) (o : Option (List ℕ)) (m : Moves) → ((name : List ℕ) → o ≡ Some name → d ≡ string name) → moves_text o ≡ Ok m
    → StatesMoves (Some d) m
moves_from_stated d None m is e = absurd (let never = e in cc)
moves_from_stated d (Some name) m is e =
    elim (named_moves (bytes_eq name (codes "expansion")) (bytes_eq name (codes "swap")) m e) [
      | inl h ↦ inl (is name refl ∙ ap string (is_text name (codes "expansion") h.0), h.1)
      | inr h ↦ inr (is name refl ∙ ap string (is_text name (codes "swap") h.0), h.1)
    ]

as_str_back : (d : Data) (name : List ℕ) → as_str d ≡ Some name → d ≡ string name
as_str_back (string s) name e = let is : s ≡ name = cc in ap string is
as_str_back (integer z) name e = absurd (let never = e in cc)
as_str_back (float x) name e = absurd (let never = e in cc)
as_str_back (boolean b) name e = absurd (let never = e in cc)
as_str_back (datetime t) name e = absurd (let never = e in cc)
as_str_back (array ds) name e = absurd (let never = e in cc)
as_str_back (table ms) name e = absurd (let never = e in cc)

moves_at_stated : (o : Option Data) (m : Moves) → moves_at o ≡ Ok m → StatesMoves o m
moves_at_stated None m e = let is : Expansion ≡ m = let made = e in cc in sym is
moves_at_stated (Some d) m e = moves_from_stated d (as_str d) m (as_str_back d) e

moves_stated : (ms : Members) (m : Moves) → moves_in ms ≡ Ok m → StatesMoves (get_member (codes "moves") ms) m
unfolding moves_in
moves_stated ms m e = moves_at_stated (get_member (codes "moves") ms) m e

costs_from_stated : (k : ℕ) (d : Data) (costs : Option (List ℤ)) → label_costs_from k d ≡ Ok costs → StatesLabelCosts (Some d) costs
unfolding label_costs_from
costs_from_stated k d costs e =
    let (ds, read, made) = then_ok (list_from field.LabelCosts k greatest_label_cost d) (λ ds. let r : Result (Option (List ℤ)) LabelFault = Ok (Some (map integer_of ds)) in r) costs e in
    let listed : Option (List ℤ) = Some (map integer_of ds) in
    let same : listed ≡ costs = let is = made in cc in
    (map integer_of ds, sym same, (list_back field.LabelCosts k greatest_label_cost d ds read).is)

costs_at_stated : (k : ℕ) (o : Option Data) (costs : Option (List ℤ)) → label_costs_at k o ≡ Ok costs → StatesLabelCosts o costs
costs_at_stated k None costs e =
    let none : Option (List ℤ) = None in
    let same : none ≡ costs = let is = e in cc in
    sym same
costs_at_stated k (Some d) costs e = costs_from_stated k d costs e

label_costs_stated : (ms : Members) (k : ℕ) (costs : Option (List ℤ)) → label_costs_in ms k ≡ Ok costs
    → StatesLabelCosts (get_member (codes "label_costs") ms) costs
unfolding label_costs_in
label_costs_stated ms k costs e = costs_at_stated k (get_member (codes "label_costs") ms) costs e

-- what the fields before `pairs` state
record Sized (ms : Members) (sites labels : ℕ) (data_costs : List ℕ) (smooth_costs : List ℤ) : Type 0 where
  sites_are : get_member (codes "sites") ms ≡ Some (integer (pos sites))
  labels_are : get_member (codes "labels") ms ≡ Some (integer (pos labels))
  costs : (d : Data) × (get_member (codes "data") ms ≡ Some d) × StatesNumbers d data_costs
  smooth : StatesCosts ms labels smooth_costs

rest_stated : (ms : Members) (sites labels : ℕ) (data_costs : List ℕ) (smooth_costs : List ℤ) (p : Problem) → Sized ms sites labels data_costs smooth_costs
    → names_rest ms sites labels data_costs smooth_costs ≡ Ok p → StatesProblem ms p
rest_stated ms sites labels data_costs smooth_costs p sized e =
    let (list, pairs_are, e1) = then_ok _ _ p e in
    let (start, start_is, e2) = then_ok _ _ p e1 in
    let (moves, moves_are, e3) = then_ok _ _ p e2 in
    let (cycles, cycles_are, e4) = then_ok _ _ p e3 in
    let (label_costs, label_costs_are, e5) = then_ok _ _ p e4 in
    let q : Problem = record {
      sites = sites;
      labels = labels;
      data_costs = data_costs;
      smooth_costs = smooth_costs;
      pairs = record { sites = sites; list = list; numbered = false };
      start = start;
      moves = moves;
      cycles = cycles;
      label_costs = label_costs;
    } in
    let is : q ≡ p = let made = e5 in cc in
    let P : Problem → Type 0 = λ x. StatesProblem ms x in
    subst P is (record {
      sites = sized.sites_are;
      labels = sized.labels_are;
      costs = sized.costs;
      smooth = sized.smooth;
      pairs = pair_list_stated ms sites list pairs_are;
      start = start_stated ms sites labels start start_is;
      moves = moves_stated ms moves moves_are;
      cycles = cycles_stated ms cycles cycles_are;
      label_costs = label_costs_stated ms labels label_costs label_costs_are;
    })

pub problem_stated : (ms : Members) (p : Problem) → problem_of_table ms ≡ Ok p → StatesProblem ms p
problem_stated ms p e =
    let (sites, sites_are, e1) = then_ok _ _ p e in
    let (labels, labels_are, e2) = then_ok _ _ p e1 in
    let (data_costs, data_are, e3) = then_ok _ _ p e2 in
    let (table_of, smooth_is, e4) = then_ok _ _ p e3 in
    let (most, trunc_is, e5) = then_ok _ _ p e4 in
    rest_stated ms sites labels data_costs (table_of most) p
    (record {
      sites_are = needed_stated ms sites sites_are;
      labels_are = labels_stated ms labels labels_are;
      costs = data_stated ms (sites * labels) data_costs data_are;
      smooth = record { most = most; trunc = trunc_stated ms most trunc_is; smooth = smooth_stated ms labels most table_of smooth_is };
    })
    e5

of_document : (o : Option Members) (p : Problem) → named_by o ≡ Ok p → (ms : Members) × (o ≡ Some ms) × StatesProblem ms p
of_document None p e = absurd (let never = e in cc)
of_document (Some ms) p e = (ms, refl, problem_stated ms p e)

-- and so is one that a text names
pub text_states : (bytes : List ℕ) (p : Problem) → problem_in bytes ≡ Ok p → TextStatesProblem bytes p
text_states bytes p e = of_document (parse_document bytes) p e

pub all_stated : (ms : Members) (r : Result LabelProblem LabelFault) → IfOk r (λ p. problem_of_table ms ≡ Ok (problem_view p)) → IfOk r (λ p. StatesProblem ms (problem_view p))
all_stated ms (Ok p) named = problem_stated ms (problem_view p) named
all_stated ms (Err fault) named = tt

pub all_texts : (bytes : List ℕ) (r : Result LabelProblem LabelFault) → IfOk r (λ p. problem_in bytes ≡ Ok (problem_view p)) → IfOk r (λ p. TextStatesProblem bytes (problem_view p))
all_texts bytes (Ok p) named = text_states bytes (problem_view p) named
all_texts bytes (Err fault) named = tt
