-- Smallest least cuts grow as the sinks can take more.
use Rattle.std.proofs.Common.{◌≡◌, ℕ, zero, suc, ◌+◌, ◌<◌, ◌≤◌, Bool, true, false, not, ◌&&◌, ◌||◌, List, [], ◌∷◌, slice_index, sum_by, arith}
use Rattle.std.proofs.lemmas.List.Sums.{sum_by-cons}
use Rattle.sums.specs.Sums.{sum_below, count_if}
use Rattle.flow_network.specs.declared.arc.Arc.{Arc}
use Rattle.flow_network.specs.Cut.{Network, nodes, network_of, with_larger_sinks, enters, capacity_of, LiesWithin, AreExtras, IsLeastCut, IsNet, IsSmallestLeastCut}
use Rattle.flow_network.proofs.Widening.{added, added_at}

both : (ℕ → Bool) → (ℕ → Bool) → ℕ → Bool
both a b v = a v && b v

either : (ℕ → Bool) → (ℕ → Bool) → ℕ → Bool
either a b v = a v || b v

-- a node that can send the one sink at most what it can send the other
node_low : (a b : Bool) (s t w : ℕ) → t ≤ w
    → count_if (a && b) s + count_if (a || b) s + count_if (not (a && b)) t + count_if (not (a || b)) w
    ≤ count_if a s + count_if b s + count_if (not a) t + count_if (not b) w
node_low true true s t w h = omega arith
node_low true false s t w h = omega arith
node_low false true s t w h = omega arith
node_low false false s t w h = omega arith

nodes_low : (n : ℕ) (a b : ℕ → Bool) (s t w : ℕ → ℕ) → ((v : ℕ) → v < n → t v ≤ w v)
    → sum_below n (λ v. count_if (a v && b v) (s v)) + sum_below n (λ v. count_if (a v || b v) (s v))
    + sum_below n (λ v. count_if (not (a v && b v)) (t v)) + sum_below n (λ v. count_if (not (a v || b v)) (w v))
    ≤ sum_below n (λ v. count_if (a v) (s v)) + sum_below n (λ v. count_if (b v) (s v))
    + sum_below n (λ v. count_if (not (a v)) (t v)) + sum_below n (λ v. count_if (not (b v)) (w v))
nodes_low zero a b s t w h = omega arith
nodes_low (suc n) a b s t w h =
    omega (arith, nodes_low n a b s t w (λ v l. h v (omega arith)), node_low (a n) (b n) (s n) (t n) (w n) (h n (omega arith)))

arc_low : (a b c d : Bool) (z : ℕ)
    → count_if ((c && d) && not (a && b)) z + count_if ((c || d) && not (a || b)) z ≤ count_if (c && not a) z + count_if (d && not b) z
arc_low true true true true z = omega arith
arc_low true true true false z = omega arith
arc_low true true false true z = omega arith
arc_low true true false false z = omega arith
arc_low true false true true z = omega arith
arc_low true false true false z = omega arith
arc_low true false false true z = omega arith
arc_low true false false false z = omega arith
arc_low false true true true z = omega arith
arc_low false true true false z = omega arith
arc_low false true false true z = omega arith
arc_low false true false false z = omega arith
arc_low false false true true z = omega arith
arc_low false false true false z = omega arith
arc_low false false false true z = omega arith
arc_low false false false false z = omega arith

within : (ℕ → Bool) → Arc → ℕ
within side arc = count_if (enters side arc) arc.capacity

arcs_low : (arcs : List Arc) (a b : ℕ → Bool)
    → sum_by (within (both a b)) arcs + sum_by (within (either a b)) arcs ≤ sum_by (within a) arcs + sum_by (within b) arcs
unfolding within both either
arcs_low [] a b = omega arith
arcs_low (arc ∷ arcs) a b =
    omega (
      arith,
      arcs_low arcs a b,
      arc_low (a arc.from) (b arc.from) (a arc.to) (b arc.to) arc.capacity,
      sum_by-cons (within (both a b)) arc arcs,
      sum_by-cons (within (either a b)) arc arcs,
      sum_by-cons (within a) arc arcs,
      sum_by-cons (within b) arc arcs,
    )

cross : (net : Network) (wide : List ℕ) (a b : ℕ → Bool) → ((v : ℕ) → v < nodes net → slice_index net.sinks v ≤ slice_index wide v)
    → capacity_of net (both a b) + capacity_of (network_of net.sources wide net.arcs) (either a b)
    ≤ capacity_of net a + capacity_of (network_of net.sources wide net.arcs) b
unfolding within both either
cross net wide a b h =
    omega (arith, nodes_low (nodes net) a b (slice_index net.sources) (slice_index net.sinks) (slice_index wide) h, arcs_low net.arcs a b)

and_right : (s t : Bool) → (s && t) ≡ true → t ≡ true
and_right true t h = h
and_right false t h = absurd (cc)

-- each node of the smallest least cut of the net is in every least cut of the wider one
pub sides_grow : (net : Network) (more : List ℕ) (low up : ℕ → Bool) → IsNet net → AreExtras net more
    → IsSmallestLeastCut net low → IsLeastCut (with_larger_sinks net more) up → LiesWithin (nodes net) low up
unfolding both
sides_grow net more low up h e least best v l inside =
    let wide = added net.sinks more in
    let all = cross net wide low up (λ u lu. omega (arith, added_at net.sinks more u (omega (arith, e.len, h.same)) (omega (arith, h.same, lu)))) in
    let other = best (either low up) in
    let same : IsLeastCut net (both low up) = λ set. omega (arith, all, other, least.least set) in
    and_right (low v) (up v) (least.smallest (both low up) same v l inside)
