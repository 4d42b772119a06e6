-- The value of a form, and the energy of its problem.
use Rattle.std.proofs.Common.{◌≡◌, ℕ, zero, suc, ◌+◌, ◌<◌, Bool, true, false, List, length, map, get_or, sum_by, refl, sym, ap, ◌∙◌, arith, ℤ, pos, negsuc, ◌+ℤ◌, ◌-ℤ◌}
use Rattle.std.specs.Prelude.{◌&&◌, not}
use Rattle.std.proofs.lemmas.Int.{ints}
use Rattle.std.proofs.lemmas.List.{get_or-map, length-map}
use Rattle.sums.specs.Sums.{sum_below, count_if}
use Rattle.sums.specs.IntegerSums.{int_sum_below, int_counted}
use Rattle.sums.proofs.SumLemmas.{sum_below-same, sum_below-none, sum_by-sum_below}
use Rattle.flow_network.specs.declared.arc.Arc.{Arc}
use Rattle.flow_network.specs.Cut.{enters}
use Rattle.label_field.specs.declared.pair.Pair.{Pair}
use Rattle.label_field.specs.PairLists.{PairList, number_pairs}
use Rattle.label_field.proofs.Numbers.{with_number, numbered_length, numbered_at}
use Rattle.label_energies.specs.Energies.{Instance, energy, data_energy, smooth_energy, label_energy, is_used, pair_cost}
use Rattle.pseudo_bool.specs.Energies.{entry, digit}
use Rattle.compile_cut.specs.declared.quadratic.Quadratic.{Quadratic}
use Rattle.compile_cut.specs.Quadratics.{quadratic_value}
use Rattle.compile_cut.specs.Weights.{weights_value, arcs_value}
use Rattle.form_costs.specs.FormCosts.{side_cost, capacity_in, arc_cost, pair_of_arc, AreFormPairs, instance_of_form, bits_as_labels}

-- ---- what labels cost the sites

side_rise : (d : ℤ) (b : Bool) → pos (side_cost d (digit b)) ≡ pos (side_cost d 0) +ℤ int_counted b d
side_rise (pos n) true = omega (arith, ints)
side_rise (pos n) false = omega (arith, ints)
side_rise (negsuc n) true = omega (arith, ints)
side_rise (negsuc n) false = omega (arith, ints)

sides_sum : (n : ℕ) (ws : List ℤ) (x : ℕ → Bool) → pos (sum_below n (λ p. side_cost (entry ws p) (digit (x p))))
    ≡ pos (sum_below n (λ p. side_cost (entry ws p) 0)) +ℤ int_sum_below n (λ p. int_counted (x p) (entry ws p))
sides_sum zero ws x = omega (arith, ints)
sides_sum (suc n) ws x = omega (arith, ints, sides_sum n ws x, side_rise (entry ws n) (x n))

-- ---- what they cost the pairs

abbrev blank : Arc
blank = record { from = 0; to = 0; capacity = 0 }

cost_where : (arcs : List Arc) (k : ℕ) (a b : Bool) → arc_cost arcs k (digit a) (digit b) ≡ count_if (b && not a) (capacity_in arcs k)
cost_where arcs k true true = refl
cost_where arcs k true false = refl
cost_where arcs k false true = refl
cost_where arcs k false false = refl

prices_sum : (arcs : List Arc) (x : ℕ → Bool)
    → sum_by (λ (pair : Pair). arc_cost arcs pair.weight (digit (x pair.first)) (digit (x pair.second))) (number_pairs 0 (map pair_of_arc arcs)) ≡ arcs_value arcs x
prices_sum arcs x =
    let f : Pair → ℕ = λ pair. arc_cost arcs pair.weight (digit (x pair.first)) (digit (x pair.second)) in
    let none : Pair = pair_of_arc blank in
    let pairs = map pair_of_arc arcs in
    let long = length-map arcs pair_of_arc in
    sum_by-sum_below f (number_pairs 0 pairs) none
    ∙ ap (λ (n : ℕ). sum_below n (λ k. f (get_or (number_pairs 0 pairs) k none))) (numbered_length 0 pairs ∙ long)
    ∙ sum_below-same (length arcs) (λ k. f (get_or (number_pairs 0 pairs) k none)) (λ k. count_if (enters x (get_or arcs k blank)) (get_or arcs k blank).capacity)
    (λ k l.
    let at = numbered_at 0 pairs k none (omega (arith, l, long)) ∙ ap (λ (w : ℕ). with_number w (get_or pairs k none)) (let e : 0 + k ≡ k = omega arith in e)
    ∙ ap (with_number k) (get_or-map pair_of_arc arcs k blank none l) in
    ap f at ∙ cost_where arcs k (x (get_or arcs k blank).from) (x (get_or arcs k blank).to))
    ∙ sym (sum_by-sum_below (λ (arc : Arc). count_if (enters x arc) arc.capacity) arcs blank)

-- ---- both

none_if : (b : Bool) → count_if b 0 ≡ 0
none_if true = refl
none_if false = refl

none_paid : (m : Instance) (f : ℕ → ℕ) → ((label : ℕ) → m.label_cost label ≡ 0) → label_energy m f ≡ 0
none_paid m f free = sum_below-none m.labels (λ label. count_if (is_used m.sites f label) (m.label_cost label)) (λ label l. ap (count_if (is_used m.sites f label)) (free label) ∙ none_if (is_used m.sites f label))

-- the fixed number
abbrev pub form_rest : Quadratic → ℤ
form_rest q = q.constant -ℤ pos (sum_below (length q.weights.items) (λ p. side_cost (entry q.weights.items p) 0))

pub form_energy : (q : Quadratic) (pairs : PairList) → AreFormPairs q pairs → (x : ℕ → Bool)
    → quadratic_value q x ≡ form_rest q +ℤ pos (energy (instance_of_form q pairs) (bits_as_labels x))
form_energy q pairs h x =
    let m = instance_of_form q pairs in
    let n : pairs.sites ≡ length q.weights.items = h.sites ∙ q.weights.ok.0 in
    let sites : data_energy m (bits_as_labels x) ≡ sum_below (length q.weights.items) (λ p. side_cost (entry q.weights.items p) (digit (x p))) =
    ap (λ (k : ℕ). sum_below k (λ p. side_cost (entry q.weights.items p) (digit (x p)))) n in
    let between : smooth_energy m (bits_as_labels x) ≡ arcs_value q.arcs.items x =
    ap (λ (list : List Pair). sum_by (λ (pair : Pair). arc_cost q.arcs.items pair.weight (digit (x pair.first)) (digit (x pair.second))) (number_pairs 0 list)) h.list
    ∙ prices_sum q.arcs.items x in
    omega (arith, ints, sites, between, none_paid m (bits_as_labels x) (λ label. refl), sides_sum (length q.weights.items) q.weights.items x)
