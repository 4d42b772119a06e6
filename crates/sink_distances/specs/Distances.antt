use Rattle.std.specs.Prelude.{◌≡◌, ◌≢◌, ℕ, ◌<◌, ◌≤◌, ◌⊎◌, Bool, nat_lt, List, length, slice_index}
use Rattle.flow_network.specs.Cut.{Network, nodes}
use Rattle.flow_network.specs.Preflow.{Flow, IsResidual, ReachesIn, Reaches}
use Rattle.flow_network.specs.Progress.{top}

-- the least number of residual directions that lead from the node to the sink
pub record IsDistance (net : Network) (flow : Flow) (v distance : ℕ) : Type 0 where
  pub leads : ReachesIn net flow distance v
  pub least : (d : ℕ) → ReachesIn net flow d v → distance ≤ d

-- the distance, which is at most the number of nodes; or the top label, where no path leads to the
-- sink
abbrev pub IsExactLabel : Network → Flow → ℕ → ℕ → Type 0
IsExactLabel net flow v label =
    ((label ≤ nodes net) × IsDistance net flow v label)
    ⊎ ((label ≡ top net) × (¬ Reaches net flow v))

-- an exact label for each node
pub record AreDistances (net : Network) (flow : Flow) (labels : List ℕ) : Type 0 where
  pub len : length labels ≡ nodes net
  pub exact : (v : ℕ) → v < nodes net → IsExactLabel net flow v (slice_index labels v)

-- no residual direction leads to a node of label 0 from one that has another label
abbrev pub AreZerosUnreached : Network → Flow → List ℕ → Type 0
AreZerosUnreached net flow labels =
    (v w : ℕ) → IsResidual net flow v w → slice_index labels w ≡ 0 → slice_index labels v ≡ 0

-- an exact label for each node, but for those of label 0
pub record AreDistancesButZeros (net : Network) (flow : Flow) (labels : List ℕ) : Type 0 where
  pub len : length labels ≡ nodes net
  pub exact : (v : ℕ) → v < nodes net → slice_index labels v ≢ 0
      → IsExactLabel net flow v (slice_index labels v)

-- each label below the limit is the distance, or 0
abbrev pub AreExactBelow : Network → Flow → ℕ → List ℕ → Type 0
AreExactBelow net flow limit labels =
    (v : ℕ) → v < nodes net → slice_index labels v < limit → slice_index labels v ≢ 0
    → IsDistance net flow v (slice_index labels v)

-- the nodes whose label is below the top one
abbrev pub is_below_top : Network → List ℕ → ℕ → Bool
is_below_top net labels v = nat_lt (slice_index labels v) (top net)
