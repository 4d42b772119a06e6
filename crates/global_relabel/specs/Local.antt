-- Labels that each node can test by what lies next to it.
use Rattle.std.specs.Prelude.{◌≡◌, ℕ, ◌+◌, ◌<◌, ◌≤◌, ◌⊎◌, Bool, List, length, slice_index}
use Rattle.flow_network.specs.Cut.{nodes}
use Rattle.flow_network.specs.Progress.{top}
use Rattle.block_events.specs.declared.direction.Direction.{Direction}
use Rattle.block_events.specs.Directions.{IsDirection, near, far}
use Rattle.block_events.specs.States.{State, residual_of, room_of, block_of, is_border}

-- the node can give the sink more
abbrev pub GivesSink : State → ℕ → Type 0
GivesSink s v = 0 < room_of s v

-- a residual direction leads from v to a node with this label
abbrev pub StepsTo : State → List ℕ → ℕ → ℕ → Type 0
StepsTo s labels v label =
    (x : Direction) × IsDirection s.net x × (near s.net x ≡ v) × (0 < residual_of s x)
    × (slice_index labels (far s.net x) ≡ label)

-- the label is at most 1 where the node can give the sink, and at most one more than that of each
-- node that a residual direction leads to; where it is not the top one, it is 1 at a node that can
-- give the sink, or one more than that of such a node
pub record IsLocallyExact (s : State) (labels : List ℕ) (v : ℕ) : Type 0 where
  pub range : (slice_index labels v ≤ nodes s.net) ⊎ (slice_index labels v ≡ top s.net)
  pub sink : GivesSink s v → slice_index labels v ≤ 1
  pub steps : (label : ℕ) → StepsTo s labels v label → slice_index labels v ≤ label + 1
  pub reason : slice_index labels v < top s.net
      → ((slice_index labels v ≡ 1) × GivesSink s v)
      ⊎ ((label : ℕ) × StepsTo s labels v label × (slice_index labels v ≡ label + 1))

-- so is that of each node
pub record AreLocallyExact (s : State) (labels : List ℕ) : Type 0 where
  pub len : length labels ≡ nodes s.net
  pub each : (v : ℕ) → v < nodes s.net → IsLocallyExact s labels v

-- so is that of each node of block b
abbrev pub AreLocallyExactIn : State → List ℕ → ℕ → Type 0
AreLocallyExactIn s labels b =
    (v : ℕ) → v < nodes s.net → block_of s.net s.blocks v ≡ b → IsLocallyExact s labels v

-- ---- how a node's label is found by what lies next to it

-- a residual direction leads on from v, within its block or to another as asked
pub record LeadsOnFrom (s : State) (leaves : Bool) (v : ℕ) (x : Direction) : Type 0 where
  pub direction : IsDirection s.net x
  pub near : near s.net x ≡ v
  pub border : is_border s.net s.blocks x ≡ leaves
  pub residual : 0 < residual_of s x

-- the least of a number and of one more than each label that such a direction leads to
pub record IsLeastStep (s : State) (leaves : Bool) (labels : List ℕ) (v before least : ℕ)
    : Type 0 where
  pub below : least ≤ before
  pub steps : (x : Direction) → LeadsOnFrom s leaves v x
      → least ≤ slice_index labels (far s.net x) + 1
  pub reason : (least ≡ before)
      ⊎ ((x : Direction) × LeadsOnFrom s leaves v x
      × (least ≡ slice_index labels (far s.net x) + 1))
