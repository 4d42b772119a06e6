-- The laws of distances, over the definitions alone.
use Rattle.std.specs.Prelude.{ℕ, ◌<◌, ◌≤◌, List, slice_index}
use Rattle.flow_network.specs.Cut.{Network, nodes, IsNet}
use Rattle.flow_network.specs.Preflow.{Flow, IsReach}
use Rattle.flow_network.specs.Labels.{IsLabelling}
use Rattle.flow_network.specs.Progress.{top}
use Rattle.sink_distances.specs.Distances.{AreDistances, is_below_top}

-- distances are labels that fall by at most 1 along each residual direction
abbrev pub DistancesLabel : Type 0
DistancesLabel =
    (net : Network) (flow : Flow) (labels : List ℕ) → IsNet net → AreDistances net flow labels
    → IsLabelling net flow labels

-- no label is above the top one
abbrev pub AreLow : Network → List ℕ → Type 0
AreLow net labels = (v : ℕ) → v < nodes net → slice_index labels v ≤ top net

-- no low labels that fall by at most 1 along each residual direction are above the distances
abbrev pub DistancesRise : Type 0
DistancesRise =
    (net : Network) (flow : Flow) (old new : List ℕ)
    → IsLabelling net flow old → AreLow net old → AreDistances net flow new
    → (v : ℕ) → v < nodes net → slice_index old v ≤ slice_index new v

-- the nodes whose distance is below the top label are those that reach the sink
abbrev pub DistancesReach : Type 0
DistancesReach =
    (net : Network) (flow : Flow) (labels : List ℕ) → AreDistances net flow labels
    → IsReach net flow (is_below_top net labels)
