-- Weights as capacities: one above 0 is the source's of its node, one below 0 the sink's, and a
-- constant.
use Rattle.std.proofs.Common.{◌≡◌, ℕ, zero, suc, ◌+◌, ◌≤◌, ◌⊎◌, inl, inr, Bool, true, false, not, List, [], ◌∷◌, length, map, sum, All, slice_index, ℤ, pos, negsuc, ◌+ℤ◌, ◌-ℤ◌, unsigned_abs, refl, arith}
use Rattle.std.proofs.lemmas.Int.{ints}
use Rattle.std.proofs.lemmas.List.{length-map}
use Rattle.std.proofs.lemmas.List.Sums.{sum_by-cons}
use Rattle.sums.specs.Sums.{sum_below, count_if}
use Rattle.sums.specs.IntegerSums.{int_counted}
use Rattle.sums.proofs.SumLemmas.{sum_below-front}
use Rattle.sums.proofs.IntegerSumLemmas.{int_sum_below-front}
use Rattle.pseudo_bool.specs.Energies.{entry}
use Rattle.flow_network.specs.declared.arc.Arc.{Arc}
use Rattle.flow_network.specs.Cut.{capacity_of, IsArc, IsNet}
use Rattle.compile_cut.specs.Weights.{weights_value, weights_size, arcs_value, arcs_size, source_part, sink_part}

weight_parts : (b : Bool) (w : ℤ) → pos (count_if b (source_part w) + count_if (not b) (sink_part w)) ≡ int_counted b w +ℤ pos (sink_part w)
weight_parts true (pos n) = omega (arith, ints)
weight_parts true (negsuc n) = omega (arith, ints)
weight_parts false (pos n) = omega (arith, ints)
weight_parts false (negsuc n) = omega (arith, ints)

pub weights_as_capacities : (ws : List ℤ) (x : ℕ → Bool)
    → pos (sum_below (length (map source_part ws)) (λ v. count_if (x v) (slice_index (map source_part ws) v))
    + sum_below (length (map source_part ws)) (λ v. count_if (not (x v)) (slice_index (map sink_part ws) v)))
    ≡ weights_value ws x +ℤ pos (sum (map sink_part ws))
weights_as_capacities [] x = refl
weights_as_capacities (w ∷ ws) x =
    let rest = weights_as_capacities ws (λ i. x (suc i)) in
    let one = sum_below-front (length (map source_part ws)) (λ v. count_if (x v) (slice_index (map source_part (w ∷ ws)) v)) in
    let two = sum_below-front (length (map source_part ws)) (λ v. count_if (not (x v)) (slice_index (map sink_part (w ∷ ws)) v)) in
    let three = int_sum_below-front (length ws) (λ v. int_counted (x v) (entry (w ∷ ws) v)) in
    omega (arith, ints, rest, one, two, three, weight_parts (x 0) w, sum_by-cons (λ n. n) (sink_part w) (map sink_part ws))

-- a cut's capacity is what the form says
pub compiled_value : (ws : List ℤ) (arcs : List Arc) (k : ℤ) (x : ℕ → Bool)
    → pos (capacity_of (record { sources = map source_part ws; sinks = map sink_part ws; arcs = arcs }) x) +ℤ (k -ℤ pos (sum (map sink_part ws)))
    ≡ k +ℤ weights_value ws x +ℤ pos (arcs_value arcs x)
compiled_value ws arcs k x = omega (arith, ints, weights_as_capacities ws x)

parts_size : (w : ℤ) → source_part w + sink_part w ≡ unsigned_abs w
parts_size (pos n) = omega arith
parts_size (negsuc n) = omega arith

pub capacities_size : (ws : List ℤ) → sum (map source_part ws) + sum (map sink_part ws) ≡ weights_size ws
capacities_size [] = refl
capacities_size (w ∷ ws) =
    omega (
      arith,
      capacities_size ws,
      parts_size w,
      sum_by-cons (λ n. n) (source_part w) (map source_part ws),
      sum_by-cons (λ n. n) (sink_part w) (map sink_part ws),
      sum_by-cons unsigned_abs w ws,
    )

pub is_net : (ws : List ℤ) (arcs : List Arc) → length ws ≤ 10485760 → All (IsArc (length ws)) arcs
    → weights_size ws + arcs_size arcs ≤ 1000000000000000000
    → IsNet (record { sources = map source_part ws; sinks = map sink_part ws; arcs = arcs })
is_net ws arcs l each size =
    record {
      same = omega (arith, length-map ws source_part, length-map ws sink_part);
      count = omega (arith, length-map ws source_part);
      arcs = rw (length-map ws source_part) each;
      total = omega (arith, capacities_size ws, size);
    }

-- of each node one of the two capacities is 0
pub one_sided : (ws : List ℤ) (v : ℕ) → (slice_index (map source_part ws) v ≡ 0) ⊎ (slice_index (map sink_part ws) v ≡ 0)
one_sided [] v = inl refl
one_sided (pos n ∷ ws) zero = inr refl
one_sided (negsuc n ∷ ws) zero = inl refl
one_sided (w ∷ ws) (suc v) = one_sided ws v
