-- What is true of every net's preflows and cuts.
use Rattle.std.specs.Prelude.{◌≡◌, ℕ, ◌≤◌, ◌<◌, Bool, true}
use Rattle.flow_network.specs.Cut.{Network, nodes, capacity_of, IsNet, IsLeastCut}
use Rattle.flow_network.specs.Cut.{IsSmallestLeastCut}
use Rattle.flow_network.specs.Preflow.{Flow, IsPreflow, IsCertified, IsReach, excess, sink_gets}

-- what the sink gets by a preflow is at most the capacity of each cut (Ford, Fulkerson 1956)
abbrev pub SinkGetsAtMostEachCut : Type 0
SinkGetsAtMostEachCut =
    (net : Network) (flow : Flow) (side : ℕ → Bool) → IsNet net → IsPreflow net flow
    → sink_gets net flow ≤ capacity_of net side

-- a cut whose set is told, with its capacity: no set of nodes has a lower one
pub record IsLeastCutOf (net : Network) (side : ℕ → Bool) (value : ℕ) : Type 0 where
  pub least : IsLeastCut net side
  pub capacity : value ≡ capacity_of net side

-- a certified cut is a least cut, and the value its capacity (Ford, Fulkerson 1956)
abbrev pub CertifiedIsLeast : Type 0
CertifiedIsLeast =
    (net : Network) (flow : Flow) (side : ℕ → Bool) (value : ℕ) → IsNet net
    → IsCertified net flow side value → IsLeastCutOf net side value

-- no node of the set has excess
abbrev pub HasNoExcess : Network → Flow → (ℕ → Bool) → Type 0
HasNoExcess net flow side = (v : ℕ) → v < nodes net → side v ≡ true → excess net flow v ≡ 0

-- the smallest least cut, and what the sink gets is its capacity
pub record IsSmallestAndFull (net : Network) (flow : Flow) (side : ℕ → Bool) : Type 0 where
  pub smallest : IsSmallestLeastCut net side
  pub full : sink_gets net flow ≡ capacity_of net side

-- where no node that reaches the sink has excess, the nodes that reach it are the smallest least
-- cut, and the sink gets its capacity (Goldberg, Tarjan 1988, section 3)
abbrev pub ReachIsSmallest : Type 0
ReachIsSmallest =
    (net : Network) (flow : Flow) (side : ℕ → Bool) → IsNet net → IsPreflow net flow
    → IsReach net flow side → HasNoExcess net flow side → IsSmallestAndFull net flow side
