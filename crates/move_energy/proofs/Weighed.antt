-- The form of the weights of the open sites, and what it stands for once the pairs' savings are
-- added.
use Rattle.std.proofs.Common.{◌≡◌, ◌==◌, ℕ, zero, suc, ◌+◌, ◌-◌, ◌<◌, ◌≤◌, Bool, true, false, cond, List, [], ◌∷◌, ◌++◌, length, vec_len, All, map, sum_by, ℤ, pos, ◌+ℤ◌, ◌-ℤ◌, unsigned_abs, w64, to_z, of_z, lit<, refl, sym, ap, ◌∙◌, subst, arith}
use Rattle.std.specs.Prelude.{◌&&◌, ◌||◌, not}
use Rattle.std.proofs.lemmas.Int.{ints, to_z-of_z}
use Rattle.std.proofs.lemmas.List.{length-append, append-nil, map-append}
use Rattle.std.proofs.lemmas.List.Sums.{sum_by-cons, sum_by_push}
use Rattle.sums.specs.Sums.{sum_below, count_if}
use Rattle.sums.specs.IntegerSums.{int_sum_below, int_counted}
use Rattle.sums.proofs.IntegerSumLemmas.{int_sum_below-same, within_fits}
use Rattle.flow_network.specs.declared.arc.Arc.{Arc}
use Rattle.label_field.specs.declared.pair.Pair.{Pair}
use Rattle.label_field.specs.PairLists.{PairList, IsPair}
use Rattle.move_energy.specs.declared.by_site.Neighbours.{Neighbours}
use Rattle.move_energy.specs.BySite.{AreBySite, has_chosen, rising_sites, met_at}
use Rattle.move_energy.proofs.Beside.{pairs_are_met_once}
use Rattle.label_energies.specs.declared.change.Move.{Move}
use Rattle.label_energies.specs.Energies.{Instance}
use Rattle.label_energies.specs.Moves.{label_after, pair_entry, IsRegularPair, IsAllowed}
use Rattle.compile_cut.specs.declared.quadratic.Quadratic.{Quadratic}
use Rattle.compile_cut.specs.Quadratics.{quadratic_value}
use Rattle.compile_cut.specs.Weights.{weights_value, weights_size, arcs_value}
use Rattle.compile_cut.proofs.WeightLemmas.{weights_value-push}
use Rattle.move_energy.specs.declared.choice.Choice.{Choice}
use Rattle.move_energy.specs.declared.choice.Choice.TheVariants.{Open, Zero as DecidedZero, One as DecidedOne}
use Rattle.move_energy.specs.Choices.{choice_at, openness, is_open, open_at, open_rank, open_count, AreOpenSites, StandsFor}
use Rattle.move_energy.specs.Built.{AddsCost}
use Rattle.move_energy.specs.Weights.{weight_at, open_energy, AreWeights, pair_surplus, are_open, unsaved_surplus, open_weights, IsOfWeights, pair_table, surplus_of}
use Rattle.move_energy.proofs.Opened.{true_open}
use Rattle.move_energy.proofs.Numbers.{rank_below, open_site, open_site_is}
use Rattle.move_energy.proofs.Values.{adds_same}
use Rattle.move_energy.proofs.Weighing.{costs_law}

-- ---- the weights of the open sites, one site after another

length_more : (c : Choice) (xs : List ℤ) (w : ℤ) → length (xs ++ cond (is_open c) (w ∷ []) []) ≡ length xs + openness c
length_more Open xs w = length-append xs (w ∷ [])
length_more DecidedZero xs w = length-append xs []
length_more DecidedOne xs w = length-append xs []

pub weights_length : (choices : List Choice) (weights : List ℤ) (n : ℕ) → length (open_weights choices weights n) ≡ open_rank choices n
weights_length choices weights zero = refl
weights_length choices weights (suc n) =
    omega (arith, length_more (choice_at choices n) (open_weights choices weights n) (weight_at weights n), weights_length choices weights n)

value_more : (c : Choice) (xs : List ℤ) (w : ℤ) (x : ℕ → Bool)
    → weights_value (xs ++ cond (is_open c) (w ∷ []) []) x ≡ weights_value xs x +ℤ int_counted (is_open c && x (length xs)) w
value_more Open xs w x = weights_value-push xs w x
value_more DecidedZero xs w x = omega (arith, ints, ap (λ (ys : List ℤ). weights_value ys x) (append-nil xs))
value_more DecidedOne xs w x = omega (arith, ints, ap (λ (ys : List ℤ). weights_value ys x) (append-nil xs))

pub weights_sum : (choices : List Choice) (weights : List ℤ) (x : ℕ → Bool) (n : ℕ)
    → weights_value (open_weights choices weights n) x
    ≡ int_sum_below n (λ u. int_counted (is_open (choice_at choices u) && x (open_rank choices u)) (weight_at weights u))
weights_sum choices weights x zero = refl
weights_sum choices weights x (suc n) =
    let place = ap (λ i. int_counted (is_open (choice_at choices n) && x i) (weight_at weights n)) (weights_length choices weights n) in
    omega (arith, ints, value_more (choice_at choices n) (open_weights choices weights n) (weight_at weights n) x, place, weights_sum choices weights x n)

size_more : (b : Bool) (xs : List ℤ) (w : ℤ) → weights_size (xs ++ cond b (w ∷ []) []) ≡ weights_size xs + count_if b (unsigned_abs w)
size_more true xs w = sum_by_push unsigned_abs xs w
size_more false xs w = (let e = ap (λ (ys : List ℤ). weights_size ys) (append-nil xs) in omega (arith, e))

-- together, without their signs
pub open_size : (choices : List Choice) (weights : List ℤ) (n : ℕ)
    → weights_size (open_weights choices weights n) ≡ sum_below n (λ u. count_if (is_open (choice_at choices u)) (unsigned_abs (weight_at weights u)))
open_size choices weights zero = refl
open_size choices weights (suc n) =
    omega (arith, size_more (open_at choices n) (open_weights choices weights n) (weight_at weights n), open_size choices weights n)

-- ---- the form of the weights

pub form_value : (weights : List ℤ) (q : Quadratic) (x : ℕ → Bool) → IsOfWeights weights q → quadratic_value q x ≡ weights_value weights x
form_value weights q x is =
    let ws = ap (λ (ys : List ℤ). weights_value ys x) is.weights_are in
    let arcs = ap (λ (ys : List Arc). arcs_value ys x) is.arcs in
    omega (arith, ints, is.constant, ws, arcs)

pub form_nodes : (choices : List Choice) (weights : List ℤ) (q : Quadratic) (n : ℕ) → n ≡ length choices → IsOfWeights (open_weights choices weights n) q
    → vec_len q.weights ≡ open_count choices
form_nodes choices weights q n all is = q.weights.ok.0 ∙ ap (λ (ws : List ℤ). length ws) is.weights_are ∙ weights_length choices weights n ∙ ap (open_rank choices) all

-- ---- what a pair saves

pub surplus_passed : (z : ℤ) → unsigned_abs z ≤ 20000000 → to_z w64 (of_z w64 z) ≡ z
surplus_passed z small = to_z-of_z w64 z (within_fits 20000000 z small (lit< tt))

first_of : (a b : Bool) → (a && b) ≡ true → a ≡ true
first_of true b both = refl
first_of false b both = absurd (cc both)

second_of : (a b : Bool) → (a && b) ≡ true → b ≡ true
second_of true b both = both
second_of false b both = absurd (cc both)

pub first_open : (choice : ℕ → Choice) (pair : Pair) → are_open choice pair ≡ true → choice pair.first ≡ Open
first_open choice pair both = true_open (choice pair.first) (first_of (is_open (choice pair.first)) (is_open (choice pair.second)) both)

pub second_open : (choice : ℕ → Choice) (pair : Pair) → are_open choice pair ≡ true → choice pair.second ≡ Open
second_open choice pair both = true_open (choice pair.second) (second_of (is_open (choice pair.first)) (is_open (choice pair.second)) both)

counted_yes : (b : Bool) (s : ℕ) → b ≡ true → count_if b s ≡ s
counted_yes true s h = refl
counted_yes false s h = absurd (cc h)

counted_no : (b : Bool) (s : ℕ) → b ≡ false → count_if b s ≡ 0
counted_no true s h = absurd (cc h)
counted_no false s h = refl

-- the surplus of a pair, counted where both its ends are open
pub surplus_uncounted : (b : Bool) (s : ℕ) → b ≡ false → pos 0 ≡ pos (count_if b s)
surplus_uncounted b s h = ap pos (sym (counted_no b s h))

regular_surplus : (a b c d : ℕ) → a + d ≤ b + c → (pos b +ℤ pos c) -ℤ (pos a +ℤ pos d) ≡ pos (b + c - (a + d))
regular_surplus a b c d h = omega (arith, ints, h)

pub surplus_counted : (m : Instance) (move : Move) (f : ℕ → ℕ) (pair : Pair) (b : Bool) (z : ℤ) → b ≡ true → IsRegularPair m move f pair
    → z ≡ surplus_of (pair_table m move f pair) → z ≡ pos (count_if b (pair_surplus m move f pair))
surplus_counted m move f pair b z h regular is =
    is ∙ regular_surplus (pair_entry m move f pair false false) (pair_entry m move f pair false true) (pair_entry m move f pair true false) (pair_entry m move f pair true true) regular
    ∙ ap pos (sym (counted_yes b (pair_surplus m move f pair) h))

pub surplus_adds : (m : Instance) (move : Move) (f : ℕ → ℕ) (choice : ℕ → Choice) (variable : ℕ → ℕ) (old new : Quadratic) (pair : Pair) (v w s : ℕ) (z : ℤ)
    → v ≡ variable pair.first → w ≡ variable pair.second → are_open choice pair ≡ true
    → z ≡ pos (count_if (are_open choice pair) (pair_surplus m move f pair)) → s ≡ unsigned_abs z
    → AddsCost old new (λ x. count_if (not (x v && x w)) s) → AddsCost old new (λ x. unsaved_surplus m move f choice variable x pair)
surplus_adds m move f choice variable old new pair v w s z first second h is size adds =
    let amount : s ≡ pair_surplus m move f pair = size ∙ ap unsigned_abs is ∙ counted_yes (are_open choice pair) (pair_surplus m move f pair) h in
    adds_same old new (λ x. count_if (not (x v && x w)) s) (λ x. unsaved_surplus m move f choice variable x pair)
    (λ x. (λ i. count_if (not (x (first i) && x (second i))) (amount i))
    ∙ sym (counted_yes (are_open choice pair) (count_if (not (x (variable pair.first) && x (variable pair.second))) (pair_surplus m move f pair)) h)) adds

-- ---- all together

weight_counted : (c : Choice) (b : Bool) (y z : ℤ) → (c ≡ Open → y ≡ z) → int_counted (is_open c && b) y ≡ int_counted (is_open c && b) z
weight_counted Open true y z same = same refl
weight_counted Open false y z same = refl
weight_counted DecidedZero b y z same = refl
weight_counted DecidedOne b y z same = refl

pub weighted_stands : (m : Instance) (move : Move) (f : ℕ → ℕ) (choices : List Choice) (weights : List ℤ) (first new : Quadratic) → All (IsPair m.sites) m.pairs
    → length choices ≡ m.sites → IsAllowed m move f → AreWeights m move f (choice_at choices) weights
    → IsOfWeights (open_weights choices weights (length choices)) first → vec_len new.weights ≡ vec_len first.weights
    → AddsCost first new (λ x. sum_by (unsaved_surplus m move f (choice_at choices) (open_rank choices) x) m.pairs)
    → StandsFor m move f (choice_at choices) new (open_rank choices)
weighted_stands m move f choices weights first new all size allowed are_weights is nodes adds =
    let choice = choice_at choices in
    let own : ℕ → Bool → ℕ = λ p b. m.data_cost p (label_after move (f p) b) in
    let both : Pair → Bool → Bool → ℕ = λ pair a b. pair_entry m move f pair a b in
    let most : ℕ = sum_by (λ pair. count_if (are_open choice pair) (pair_surplus m move f pair)) m.pairs in
    record {
      rest = adds.rest +ℤ (open_energy m move f choice (λ p. false) -ℤ pos most);
      site = open_site choices (length choices);
      value = λ x.
          let law = costs_law m.sites own both choice (λ p. x (open_rank choices p)) m.pairs all allowed in
          let sums = weights_sum choices weights x m.sites in
          let of_weights = form_value (open_weights choices weights (length choices)) first x is in
          let whole = ap (λ n. weights_value (open_weights choices weights n) x) size in
          let same = int_sum_below-same m.sites (λ u. int_counted (is_open (choice u) && x (open_rank choices u)) (weight_at weights u))
          (λ u. int_counted (is_open (choice u) && x (open_rank choices u)) (open_energy m move f choice (λ p. p == u) -ℤ open_energy m move f choice (λ p. false)))
          (λ u l. weight_counted (choice u) (x (open_rank choices u)) _ _ (are_weights u l)) in
          omega (arith, ints, law, sums, of_weights, whole, same, adds.value x);
      covers = λ p l opened.
          let within : p < length choices = omega (arith, l, size) in
          let count = form_nodes choices weights first (length choices) refl is in
          (omega (arith, rank_below choices p (length choices) within opened, nodes, count), open_site_is choices (length choices) p within opened);
    }

-- ---- where the open sites are listed

chosen_weight : (weights : List ℤ) (b : Bool) (n : ℕ) → map (weight_at weights) (cond b (n ∷ []) []) ≡ cond b (weight_at weights n ∷ []) []
chosen_weight weights true n = refl
chosen_weight weights false n = refl

listing_weights : (choices : List Choice) (weights : List ℤ) (n : ℕ) → map (weight_at weights) (rising_sites (open_at choices) n) ≡ open_weights choices weights n
listing_weights choices weights zero = refl
listing_weights choices weights (suc n) =
    map-append (weight_at weights) (rising_sites (open_at choices) n) (cond (open_at choices n) (n ∷ []) [])
    ∙ (λ i. listing_weights choices weights n i ++ chosen_weight weights (open_at choices n) n i)

pub listed_weights_are : (choices : List Choice) (weights : List ℤ) (opened : List ℕ) → AreOpenSites choices opened
    → map (weight_at weights) opened ≡ open_weights choices weights (length choices)
listed_weights_are choices weights opened listed =
    ap (λ (xs : List ℕ). map (weight_at weights) xs) listed ∙ listing_weights choices weights (length choices)

met_unsaved : (a b : Bool) (z : ℕ) → count_if (a || b) (count_if (a && b) z) ≡ count_if (a && b) z
met_unsaved true b z = refl
met_unsaved false true z = refl
met_unsaved false false z = refl

sum_same : {A : Type 0} (f g : A → ℕ) (xs : List A) → ((x : A) → f x ≡ g x) → sum_by f xs ≡ sum_by g xs
sum_same f g [] same = refl
sum_same f g (x ∷ xs) same = omega (arith, sum_by-cons f x xs, sum_by-cons g x xs, same x, sum_same f g xs same)

-- the pairs of the listed sites are all that save anything
pub listed_savings : (m : Instance) (move : Move) (f : ℕ → ℕ) (choices : List Choice) (opened : List ℕ) (pairs : PairList) (ends : Neighbours) (first new : Quadratic)
    → m.sites ≡ pairs.sites → m.pairs ≡ pairs.list → All (IsPair m.sites) m.pairs → AreBySite pairs ends → length choices ≡ pairs.sites → AreOpenSites choices opened
    → AddsCost first new (λ x. sum_by (met_at ends (open_at choices) (unsaved_surplus m move f (choice_at choices) (open_rank choices) x)) opened)
    → AddsCost first new (λ x. sum_by (unsaved_surplus m move f (choice_at choices) (open_rank choices) x) m.pairs)
listed_savings m move f choices opened pairs ends first new same_sites same_pairs all by_site size listed adds =
    let P : ℕ → List Pair → Type 0 = λ n ps. All (IsPair n) ps in
    let Q : ℕ → Type 0 = λ n. P n m.pairs in
    let R : List Pair → Type 0 = λ ps. P pairs.sites ps in
    let every = subst R same_pairs (subst Q same_sites all) in
    let is : opened ≡ rising_sites (open_at choices) pairs.sites = listed ∙ ap (λ k. rising_sites (open_at choices) k) size in
    adds_same first new (λ x. sum_by (met_at ends (open_at choices) (unsaved_surplus m move f (choice_at choices) (open_rank choices) x)) opened)
    (λ x. sum_by (unsaved_surplus m move f (choice_at choices) (open_rank choices) x) m.pairs)
    (λ x. (let value : Pair → ℕ = unsaved_surplus m move f (choice_at choices) (open_rank choices) x in
    ap (λ (xs : List ℕ). sum_by (met_at ends (open_at choices) value) xs) is
    ∙ pairs_are_met_once pairs ends (open_at choices) value every by_site
    ∙ sum_same (λ (pair : Pair). count_if (has_chosen (open_at choices) pair) (value pair)) value pairs.list
    (λ pair. met_unsaved (open_at choices pair.first) (open_at choices pair.second) _)
    ∙ ap (λ (ps : List Pair). sum_by value ps) (sym same_pairs))) adds
