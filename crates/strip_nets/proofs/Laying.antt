-- The weights of a strip laid on the form of what its pairs save, and what that stands for then.
use Rattle.std.proofs.Common.{◌≡◌, ℕ, ◌+◌, ◌<◌, ◌≤◌, Bool, List, length, vec_len, take, set, map, sum_by, ℤ, pos, ◌+ℤ◌, unsigned_abs, w64, to_z, of_z, lit<, refl, sym, ap, ◌∙◌, subst, arith}
use Rattle.std.specs.Global.{Vec}
use Rattle.std.proofs.lemmas.Int.{ints, to_z-of_z}
use Rattle.std.proofs.lemmas.List.{take_more, length-take-le, length-map}
use Rattle.std.proofs.lemmas.List.Sums.{sum_by-set, sum_by_more, get_or-le-sum_by}
use Rattle.sums.proofs.IntegerSumLemmas.{within_fits, abs-add}
use Rattle.sums.specs.IntegerSums.{int_counted}
use Rattle.label_field.specs.PairLists.{PairList}
use Rattle.label_energies.specs.declared.change.Move.{Move}
use Rattle.label_energies.specs.Energies.{Instance, IsInstance}
use Rattle.label_energies.specs.Moves.{IsAllowed}
use Rattle.pseudo_bool.specs.Energies.{entry}
use Rattle.flow_network.specs.declared.arc.Arc.{Arc}
use Rattle.compile_cut.specs.declared.quadratic.Quadratic.{Quadratic}
use Rattle.compile_cut.specs.Quadratics.{IsConstant}
use Rattle.compile_cut.specs.Weights.{weights_value, weights_size, arcs_value}
use Rattle.compile_cut.proofs.TermLemmas.{constant_value, constant_nodes}
use Rattle.compile_cut.proofs.WeightLemmas.{weights_value-add, weights_value-push}
use Rattle.move_energy.specs.declared.by_site.Neighbours.{Neighbours}
use Rattle.move_energy.specs.declared.choice.Choice.{Choice}
use Rattle.move_energy.specs.BySite.{AreBySite, met_at}
use Rattle.move_energy.specs.Built.{AddsCost}
use Rattle.move_energy.specs.Choices.{choice_at, open_at, open_rank, AreOpenSites, StandsFor}
use Rattle.move_energy.specs.Weights.{IsOfWeights, unsaved_surplus, open_weights}
use Rattle.move_energy.proofs.Opened.{opened_within}
use Rattle.move_energy.proofs.Weighed.{form_value, weighted_stands, listed_weights_are, listed_savings}
use Rattle.strip_nets.specs.Views.{strip_view, KeepsChosen, weight_now}
use Rattle.strip_nets.proofs.Views.{view_length}
use Rattle.strip_nets.proofs.Borders.{list_of, map_now, weights_now}

-- ---- one weight after another

-- a weight and what is added to it, as the machine counts them
pub sum_passed : (a b : ℤ) → unsigned_abs a ≤ 500000000000000000 → unsigned_abs b ≤ 500000000000000000
    → to_z w64 (of_z w64 (to_z w64 (of_z w64 a) +ℤ to_z w64 (of_z w64 b))) ≡ a +ℤ b
sum_passed a b small few =
    let first = to_z-of_z w64 a (within_fits 500000000000000000 a small (lit< tt)) in
    let second = to_z-of_z w64 b (within_fits 500000000000000000 b few (lit< tt)) in
    let both = to_z-of_z w64 (a +ℤ b) (within_fits 1000000000000000000 (a +ℤ b) (omega (arith, abs-add a b, small, few)) (lit< tt)) in
    ap (λ (z : ℤ). to_z w64 (of_z w64 z)) (λ i. first i +ℤ second i) ∙ both

pub one_small : (ws : List ℤ) (i : ℕ) → i < length ws → weights_size ws ≤ 500000000000000000 → unsigned_abs (entry ws i) ≤ 500000000000000000
one_small ws i l small = omega (arith, get_or-le-sum_by unsigned_abs ws i (pos 0) l, small)

pub value_more : (first ws list : List ℤ) (i : ℕ) (x : ℕ → Bool) → i < length ws → i < length list
    → weights_value ws x ≡ weights_value first x +ℤ weights_value (take i list) x
    → weights_value (set ws i (entry ws i +ℤ entry list i)) x ≡ weights_value first x +ℤ weights_value (take (i + 1) list) x
value_more first ws list i x l k before =
    let added = weights_value-add ws i (entry list i) x l in
    let taken = ap (λ (ys : List ℤ). weights_value ys x) (take_more list i (pos 0) k) ∙ weights_value-push (take i list) (entry list i) x in
    let place = ap (λ (j : ℕ). int_counted (x j) (entry list i)) (length-take-le i list (omega (arith, k))) in
    omega (arith, ints, added, taken, place, before)

pub size_set : (first ws list : List ℤ) (i : ℕ) → i < length ws → i < length list
    → weights_size ws ≤ weights_size first + weights_size (take i list)
    → weights_size (set ws i (entry ws i +ℤ entry list i)) ≤ weights_size first + weights_size (take (i + 1) list)
size_set first ws list i l k before =
    let changed = sum_by-set unsigned_abs ws i (entry ws i +ℤ entry list i) (pos 0) l in
    let next = sum_by_more unsigned_abs list i (pos 0) k in
    omega (arith, changed, next, abs-add (entry ws i) (entry list i), before)

-- ---- the form with the weights laid on it

-- the same form with other weights
abbrev pub IsLaid : List ℤ → Quadratic → Quadratic → Type 0
IsLaid list old new =
    (new.constant ≡ old.constant) × (new.arcs ≡ old.arcs) × (vec_len new.weights ≡ vec_len old.weights)
    × ((x : ℕ → Bool) → weights_value new.weights.items x ≡ weights_value old.weights.items x +ℤ weights_value list x)
    × (weights_size new.weights.items ≤ weights_size old.weights.items + weights_size list)

-- the form of the weights alone
abbrev alone : Quadratic → Vec ℤ → Quadratic
alone zero_form list = record zero_form { weights = list }

alone_is : (nodes : ℕ) (zero_form : Quadratic) (list : Vec ℤ) → IsConstant (pos 0) nodes zero_form → IsOfWeights list.items (alone zero_form list)
alone_is nodes zero_form list is = record { constant = is.constant_is; weights_are = refl; arcs = is.arcs }

laid_adds : (nodes : ℕ) (zero_form old new : Quadratic) (list : Vec ℤ) (cost : (ℕ → Bool) → ℕ) → IsConstant (pos 0) nodes zero_form
    → AddsCost zero_form old cost → IsLaid list.items old new → AddsCost (alone zero_form list) new cost
laid_adds nodes zero_form old new list cost none adds laid = record {
  rest = adds.rest;
  value = λ x.
      let arcs = ap (λ (ys : Vec Arc). arcs_value ys.items x) laid.1 in
      omega (arith, ints, adds.value x, constant_value (pos 0) nodes zero_form none x, form_value list.items (alone zero_form list) x (alone_is nodes zero_form list none), laid.0, laid.3 x, arcs);
}

-- what the rows of a strip stand for
pub rows_stand : (m : Instance) (move : Move) (f : ℕ → ℕ) (start known : List Choice) (from to : ℕ) (opened : List ℕ) (pairs : PairList) (ends : Neighbours)
    (nodes : ℕ) (zero_form old new : Quadratic) (list : Vec ℤ)
    → m.sites ≡ pairs.sites → m.pairs ≡ pairs.list → IsInstance m → IsAllowed m move f → AreBySite pairs ends → length known ≡ m.sites
    → KeepsChosen start known → AreOpenSites (strip_view known from to) opened
    → IsConstant (pos 0) nodes zero_form → nodes ≡ length opened → vec_len old.weights ≡ vec_len zero_form.weights → IsLaid list.items old new
    → list.items ≡ map (weight_now m move f (choice_at start) (choice_at known)) opened
    → AddsCost zero_form old (λ x. sum_by (met_at ends (open_at (strip_view known from to)) (unsaved_surplus m move f (choice_at (strip_view known from to)) (open_rank (strip_view known from to)) x)) opened)
    → StandsFor m move f (choice_at (strip_view known from to)) new (open_rank (strip_view known from to))
rows_stand m move f start known from to opened pairs ends nodes zero_form old new list sites_are pairs_are all allowed by_site size on listed none count kept laid is adds =
    let v = strip_view known from to in
    let long = view_length known from to in
    let weight : ℕ → ℤ = weight_now m move f (choice_at start) (choice_at known) in
    let less = list_of weight m.sites in
    let first = alone zero_form list in
    let within = opened_within v opened m.sites listed (long ∙ size) in
    let W : List ℤ → Type 0 = λ ws. IsOfWeights ws first in
    let weighs : IsOfWeights (open_weights v less (length v)) first =
    subst W (is ∙ map_now weight m.sites opened within ∙ listed_weights_are v less opened listed) (alone_is nodes zero_form list none) in
    let many : vec_len first.weights ≡ length opened = list.ok.0 ∙ ap (λ (ws : List ℤ). length ws) is ∙ length-map opened weight in
    weighted_stands m move f v less first new all (long ∙ size) allowed
    (weights_now m move f start known from to all allowed (sym size) on) weighs
    (laid.2 ∙ kept ∙ constant_nodes (pos 0) nodes zero_form none ∙ count ∙ sym many)
    (listed_savings m move f v opened pairs ends first new sites_are pairs_are all by_site (long ∙ size ∙ sites_are) listed
    (laid_adds nodes zero_form old new list _ none adds laid))
