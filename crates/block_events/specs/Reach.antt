-- Paths of residual directions to the sink (Goldberg, Tarjan 1988, section 2), in a state.
use Rattle.std.specs.Prelude.{◌≡◌, ℕ, zero, suc, ◌<◌, ◌≤◌, ◌⊎◌, Bool, true, List, length}
use Rattle.std.specs.Prelude.{slice_index}
use Rattle.flow_network.specs.Cut.{nodes}
use Rattle.flow_network.specs.Progress.{top}
use Rattle.block_events.specs.declared.direction.Direction.{Direction}
use Rattle.block_events.specs.Directions.{IsDirection, near, far}
use Rattle.block_events.specs.States.{State, residual_of, room_of}

-- a path of this many residual directions, the last of them to the sink, leads on from v
abbrev pub ReachesSinkIn : State → ℕ → ℕ → Type 0
ReachesSinkIn s zero v = ⊥
ReachesSinkIn s (suc zero) v = (v < nodes s.net) × (0 < room_of s v)
ReachesSinkIn s (suc (suc d)) v =
    (x : Direction) × (IsDirection s.net x) × (near s.net x ≡ v) × (0 < residual_of s x)
    × ReachesSinkIn s (suc d) (far s.net x)

-- a path of residual directions leads from v to the sink
abbrev pub ReachesSink : State → ℕ → Type 0
ReachesSink s v = (d : ℕ) × ReachesSinkIn s d v

-- the least number of residual directions from v to the sink; or the top label, where no path leads
-- there
abbrev pub IsExact : State → ℕ → ℕ → Type 0
IsExact s v label =
    ((label ≤ nodes s.net) × ReachesSinkIn s label v × ((d : ℕ) → ReachesSinkIn s d v → label ≤ d))
    ⊎ ((label ≡ top s.net) × (¬ ReachesSink s v))

-- an exact label for each node
pub record AreExact (s : State) (labels : List ℕ) : Type 0 where
  pub len : length labels ≡ nodes s.net
  pub exact : (v : ℕ) → v < nodes s.net → IsExact s v (slice_index labels v)

-- the set is the set of nodes from which a path of residual directions leads to the sink
pub record IsReachOf (s : State) (side : ℕ → Bool) : Type 0 where
  pub sound : (v : ℕ) → v < nodes s.net → side v ≡ true → ReachesSink s v
  pub complete : (v : ℕ) → v < nodes s.net → ReachesSink s v → side v ≡ true
