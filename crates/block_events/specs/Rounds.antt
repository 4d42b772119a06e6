-- A round: each block does events of its own, and what a block does not take stays on the way.
use Rattle.std.specs.Prelude.{◌≡◌, ◌≢◌, ℕ, ◌+◌, ◌-◌, ◌<◌, List, [], ◌++◌, length, slice_index_or}
use Rattle.sums.specs.Sums.{sum_below}
use Rattle.flow_network.specs.Cut.{nodes}
use Rattle.block_events.specs.declared.direction.Direction.{Direction}
use Rattle.block_events.specs.declared.event.Event.{Event}
use Rattle.block_events.specs.Directions.{IsDirection}
use Rattle.block_events.specs.States.{State, lane_at, way_at, excess_of, label_of, room_of}
use Rattle.block_events.specs.States.{block_of, near_block}
use Rattle.block_events.specs.Soundness.{IsSquare}
use Rattle.block_events.specs.Workers.{IsHistory, MayStart}

-- the block that a node lies in
abbrev pub block_of_node : State → ℕ → ℕ
block_of_node s v = block_of s.net s.blocks v

-- the new state is of the old one's net, and has of each block what that block came to, seen alone
pub record IsJoined (old new : State) (ends : ℕ → State) : Type 0 where
  pub net : new.net ≡ old.net
  pub blocks : new.blocks ≡ old.blocks
  pub excess_len : length new.excess ≡ nodes old.net
  pub labels_len : length new.labels ≡ nodes old.net
  pub rooms_len : length new.rooms ≡ nodes old.net
  pub forth_len : length new.lanes.forth ≡ length old.net.arcs
  pub back_len : length new.lanes.back ≡ length old.net.arcs
  pub excess : (v : ℕ) → v < nodes old.net
      → excess_of new v ≡ excess_of (ends (block_of_node old v)) v
  pub labels : (v : ℕ) → v < nodes old.net
      → label_of new v ≡ label_of (ends (block_of_node old v)) v
  pub rooms : (v : ℕ) → v < nodes old.net → room_of new v ≡ room_of (ends (block_of_node old v)) v
  pub lanes : (x : Direction) → IsDirection old.net x
      → lane_at new.lanes x ≡ lane_at (ends (near_block old.net old.blocks x)).lanes x
  -- the sink got what each block gave it
  pub got : new.got ≡ old.got + sum_below old.blocks (λ b. (ends b).got - old.got)

-- a history for each block; no order between events of two blocks is named
pub record RoundOf (old new : State) : Type 0 where
  pub histories : List (List Event)
  pub ends : ℕ → State
  pub count : length histories ≡ old.blocks
  pub led : (b : ℕ) → b < old.blocks → IsHistory b old (slice_index_or histories b []) (ends b)
  pub joined : IsJoined old new ends
  -- what b put for c is what c took from b, followed by what is left on the way
  pub square : IsSquare old.blocks new.ways
  pub ways : (b c : ℕ) → b < old.blocks → c < old.blocks
      → way_at (ends b).ways b c ≡ way_at (ends c).ways b c ++ way_at new.ways b c
  -- a block that could do something without taking a message did something
  pub busy : (b : ℕ) (e : Event) → b < old.blocks → MayStart b old e
      → slice_index_or histories b [] ≢ []
