-- Distances are the highest labels that fit the flow, and tell which nodes reach the sink.
use Rattle.std.proofs.Common.{ℕ, zero, suc, ◌+◌, ◌<◌, ◌≤◌, inl, inr, List, slice_index, arith}
use Rattle.std.proofs.lemmas.Bool.Decides.{nat_tests}
use Rattle.flow_network.specs.Cut.{Network, nodes, IsNet}
use Rattle.flow_network.specs.Preflow.{Flow, IsResidual, ReachesIn, Reaches, IsReach}
use Rattle.flow_network.specs.Labels.{IsLabelling}
use Rattle.flow_network.specs.Progress.{top}
use Rattle.flow_network.proofs.Duality.{arc_is}
use Rattle.flow_network.proofs.Moves.{label-le-path}
use Rattle.sink_distances.specs.Distances.{IsExactLabel, AreDistances, is_below_top}

-- ---- one exact label

pub exact-le-top : (net : Network) (flow : Flow) (v label : ℕ) → IsExactLabel net flow v label → label ≤ top net
exact-le-top net flow v label (inl near) = omega (arith, near.0)
exact-le-top net flow v label (inr far) = omega (arith, far.0)

-- an exact label is at most the length of each path
pub exact-le-path : (net : Network) (flow : Flow) (v label d : ℕ) → IsExactLabel net flow v label → ReachesIn net flow d v → label ≤ d
exact-le-path net flow v label d (inl near) path = near.1.least d path
exact-le-path net flow v label d (inr far) path = absurd (far.1 (d, path))

-- an exact label below the top one is the length of a path
pub exact_leads : (net : Network) (flow : Flow) (v label : ℕ) → IsExactLabel net flow v label → label < top net → ReachesIn net flow label v
exact_leads net flow v label (inl near) below = near.1.leads
exact_leads net flow v label (inr far) below = absurd (omega (arith, far.0, below))

-- where a path leads to the sink, an exact label is at most the number of nodes
pub exact-le-nodes : (net : Network) (flow : Flow) (v label : ℕ) → IsExactLabel net flow v label → Reaches net flow v → label ≤ nodes net
exact-le-nodes net flow v label (inl near) reach = near.0
exact-le-nodes net flow v label (inr far) reach = absurd (far.1 reach)

-- ---- residual directions

-- a residual direction leads between nodes
pub residual_nodes : (net : Network) (flow : Flow) (v w : ℕ) → IsNet net → IsResidual net flow v w → (v < nodes net) × (w < nodes net)
residual_nodes net flow v w h (k, l, inl forward) =
    (rw forward.0 at (arc_is net h k l).from, rw forward.1 at (arc_is net h k l).to)
residual_nodes net flow v w h (k, l, inr back) =
    (rw back.0 at (arc_is net h k l).to, rw back.1 at (arc_is net h k l).from)

-- a step before a path of a known length
pub reaches_one_more : (net : Network) (flow : Flow) (v w d : ℕ) → IsResidual net flow v w → ReachesIn net flow d w → ReachesIn net flow (suc d) v
reaches_one_more net flow v w zero step path = absurd path
reaches_one_more net flow v w (suc d) step path = (w, step, path)

-- ---- the laws

exact_falls : (net : Network) (flow : Flow) (v w near far : ℕ) → IsResidual net flow v w → IsExactLabel net flow v far → IsExactLabel net flow w near → far ≤ near + 1
exact_falls net flow v w near far step at_v (inl found) =
    omega (arith, exact-le-path net flow v far (suc near) at_v (reaches_one_more net flow v w near step found.1.leads))
exact_falls net flow v w near far step at_v (inr none) =
    omega (arith, exact-le-top net flow v far at_v, none.0)

-- distances are labels that fall by at most 1 along each residual direction
pub distances_label : (net : Network) (flow : Flow) (labels : List ℕ) → IsNet net → AreDistances net flow labels → IsLabelling net flow labels
distances_label net flow labels h are = record {
  len = are.len;
  sinks = λ v l room. exact-le-path net flow v (slice_index labels v) 1 (are.exact v l) (l, room);
  arcs = λ v w step.
      let ends = residual_nodes net flow v w h step in
      exact_falls net flow v w (slice_index labels w) (slice_index labels v) step (are.exact v ends.0) (are.exact w ends.1);
}

-- distances are at most the top label
pub distances-le-top : (net : Network) (flow : Flow) (labels : List ℕ) → AreDistances net flow labels
    → (v : ℕ) → v < nodes net → slice_index labels v ≤ top net
distances-le-top net flow labels are v l = exact-le-top net flow v (slice_index labels v) (are.exact v l)

-- no label that fits is above an exact one
pub rises_to : (net : Network) (flow : Flow) (old : List ℕ) (v label : ℕ) → IsLabelling net flow old → slice_index old v ≤ top net
    → IsExactLabel net flow v label → slice_index old v ≤ label
rises_to net flow old v label fits below (inl near) = label-le-path net flow old fits label v near.1.leads
rises_to net flow old v label fits below (inr far) = omega (arith, below, far.0)

-- no labels that fit are above the distances
pub distances_rise : (net : Network) (flow : Flow) (old new : List ℕ) → IsLabelling net flow old → ((v : ℕ) → v < nodes net → slice_index old v ≤ top net)
    → AreDistances net flow new → (v : ℕ) → v < nodes net → slice_index old v ≤ slice_index new v
distances_rise net flow old new fits below are v l = rises_to net flow old v (slice_index new v) fits (below v l) (are.exact v l)

-- a node that reaches the sink has a distance of at most the number of nodes
pub distances-le-nodes : (net : Network) (flow : Flow) (labels : List ℕ) → AreDistances net flow labels
    → (v : ℕ) → v < nodes net → Reaches net flow v → slice_index labels v ≤ nodes net
distances-le-nodes net flow labels are v l reach = exact-le-nodes net flow v (slice_index labels v) (are.exact v l) reach

-- the nodes whose distance is below the top label are those that reach the sink
pub distances_reach : (net : Network) (flow : Flow) (labels : List ℕ) → AreDistances net flow labels → IsReach net flow (is_below_top net labels)
distances_reach net flow labels are = record {
  sound = λ v l below.
      let less : slice_index labels v < top net = grind (arith, nat_tests) in
      (slice_index labels v, exact_leads net flow v (slice_index labels v) (are.exact v l) less);
  complete = λ v l reach.
      let near = distances-le-nodes net flow labels are v l reach in
      let less : slice_index labels v < top net = omega (arith, near) in
      grind (arith, nat_tests);
}
