-- Labels that come down to the exact ones.
use Rattle.std.specs.Prelude.{◌≡◌, ℕ, ◌+◌, ◌<◌, ◌≤◌, ◌⊎◌, Bool, true, false, [], length}
use Rattle.std.specs.Prelude.{slice_index, sum}
use Rattle.flow_network.specs.Cut.{nodes}
use Rattle.flow_network.specs.Progress.{top}
use Rattle.block_events.specs.declared.direction.Direction.{Direction}
use Rattle.block_events.specs.Directions.{near, far, forward, backward}
use Rattle.block_events.specs.Reach.{ReachesSinkIn}
use Rattle.block_events.specs.States as core
use Rattle.block_events.specs.Effects.{BlocksView, state_of, told_lane}
use Rattle.net_in_blocks.specs.Views.{IsLong}

-- the state with no label and nothing on the way: paths to the sink do not depend on these
abbrev pub bare : BlocksView → core.State
bare b = state_of (record b { labels = [] }) [] 0

-- each label is the top one, and the rest is as it was
pub record IsCutOff (old new : BlocksView) : Type 0 where
  pub rest : new ≡ record old { labels = new.labels }
  pub long : IsLong old
  pub len : length new.labels ≡ nodes old.net
  pub tops : (v : ℕ) → v < nodes old.net → slice_index new.labels v ≡ top old.net

-- each label is the top one, or below it and the length of a path to the sink
pub record AreLengths (b : BlocksView) : Type 0 where
  pub each : (v : ℕ) → v < nodes b.net
      → (slice_index b.labels v ≡ top b.net)
      ⊎ ((slice_index b.labels v < top b.net) × ReachesSinkIn (bare b) (slice_index b.labels v) v)

-- labels came down, where any did, and the rest is as it was
pub record IsLowered (old new : BlocksView) (changed : Bool) : Type 0 where
  pub rest : new ≡ record old { labels = new.labels }
  pub len : length new.labels ≡ length old.labels
  pub reached : AreLengths old → AreLengths new
  pub less : changed ≡ true → sum new.labels < sum old.labels
  pub still : changed ≡ false → new ≡ old

-- the label is at most 1 where the node can give the sink
abbrev pub IsStableAt : BlocksView → ℕ → Type 0
IsStableAt b v = 0 < slice_index b.rooms v → slice_index b.labels v ≤ 1

-- the label is at most 1 more than at the far end of a residual direction
abbrev pub IsStableAlong : BlocksView → Direction → Type 0
IsStableAlong b x =
    0 < (core.lane_at b.lanes x).residual
    → slice_index b.labels (near b.net x) ≤ slice_index b.labels (far b.net x) + 1

-- so it is along both directions of an arc
abbrev pub IsStableAcross : BlocksView → ℕ → Type 0
IsStableAcross b k = IsStableAlong b (forward k) × IsStableAlong b (backward k)

-- so it is along all directions, and each node with room has a label of at most 1
pub record IsStable (b : BlocksView) : Type 0 where
  pub rooms : (v : ℕ) → v < nodes b.net → IsStableAt b v
  pub forth : (k : ℕ) → k < length b.net.arcs → IsStableAlong b (forward k)
  pub back : (k : ℕ) → k < length b.net.arcs → IsStableAlong b (backward k)

-- a direction to another block knows the label of its far end
abbrev pub told_one : BlocksView → Direction → BlocksView
told_one b x = record b { lanes = core.put_lane b.lanes x (told_lane b x) }
