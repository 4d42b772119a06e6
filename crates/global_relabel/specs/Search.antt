-- The nodes that a search by levels begins at, and the directions that it goes against.
use Rattle.std.specs.Prelude.{◌≡◌, ℕ, ◌+◌, ◌<◌, ◌≤◌, Bool, List, slice_index}
use Rattle.flow_network.specs.Cut.{Network}
use Rattle.block_events.specs.declared.direction.Direction.{Direction}
use Rattle.block_events.specs.Directions.{IsDirection, near, far}
use Rattle.block_events.specs.States.{Lanes, lane_at}
use Rattle.block_net.specs.Views.{CellsView, count, room_in}
use Rattle.block_net.specs.Whole.{Whole, is_outer, state_shown}

-- the nodes of a block, which begin at the first, are among so many
abbrev pub AreNodesWithin : CellsView → ℕ → ℕ → Type 0
AreNodesWithin B first n = (p : ℕ) → p < count B → first + p < n

-- node v lies in a block, whose nodes begin at the first, and can give the sink more
abbrev pub GivesIn : CellsView → ℕ → ℕ → Type 0
GivesIn B first v = (p : ℕ) × (p < count B) × (first + p ≡ v) × (0 < room_in B p)

-- a residual direction leads from v to w
abbrev pub HasResidualLane : Network → Lanes → ℕ → ℕ → Type 0
HasResidualLane net lanes w v =
    (x : Direction) × IsDirection net x × (near net x ≡ v) × (far net x ≡ w)
    × (0 < (lane_at lanes x).residual)

-- each residual direction to node u, within its block or from another as asked, leaves a node that
-- has at most this label
abbrev pub AreNeighboursLabelled : Whole → Bool → ℕ → ℕ → List ℕ → Type 0
AreNeighboursLabelled w leaves u label labels =
    (x : Direction) → IsDirection w.net x → far w.net x ≡ u → is_outer w x ≡ leaves
    → 0 < (lane_at (state_shown w).lanes x).residual
    → slice_index labels (near w.net x) ≤ label
