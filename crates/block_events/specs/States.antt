-- A state of the core: a net in blocks, and the messages between them.
use Rattle.std.specs.Prelude.{ℕ, ◌*◌, ◌/◌, ◌<◌, Bool, not, cond, ◌==◌, List, [], ◌∷◌, ◌++◌}
use Rattle.std.specs.Prelude.{slice_index, slice_index_or, slice_set, sum_by, Option, None}
use Rattle.flow_network.specs.Cut.{Network, nodes}
pub use Rattle.block_events.specs.declared.flight.Flight.{Flight}
pub use Rattle.block_events.specs.declared.lane.Lane.{Lane}
use Rattle.block_events.specs.declared.direction.Direction.{Direction}
use Rattle.block_events.specs.declared.message.Message.{Message}
use Rattle.block_events.specs.Directions.{near, far}

-- a lane for each direction
pub record Lanes : Type 0 where
  pub forth : List Lane
  pub back : List Lane

abbrev pub no_lane : Lane
no_lane = record { residual = 0; known = 0; flight = None }

abbrev pub lane_at : Lanes → Direction → Lane
lane_at lanes x = slice_index_or (cond x.back lanes.back lanes.forth) x.arc no_lane

abbrev pub put_lane : Lanes → Direction → Lane → Lanes
put_lane lanes x lane = record {
  forth = cond x.back lanes.forth (slice_set lanes.forth x.arc lane);
  back = cond x.back (slice_set lanes.back x.arc lane) lanes.back;
}

-- the messages on the way from one block to another, the first to be taken in front
abbrev pub way_at : List (List (List Message)) → ℕ → ℕ → List Message
way_at ways b c = slice_index_or (slice_index_or ways b []) c []

abbrev pub put_way : List (List (List Message)) → ℕ → ℕ → List Message → List (List (List Message))
put_way ways b c way = slice_set ways b (slice_set (slice_index_or ways b []) c way)

-- a message goes to the end of a way
abbrev pub put_message : List (List (List Message)) → ℕ → ℕ → Message → List (List (List Message))
put_message ways b c m = put_way ways b c (way_at ways b c ++ m ∷ [])

-- the sum over all messages
abbrev pub over_messages : (Message → ℕ) → List (List (List Message)) → ℕ
over_messages f ways = sum_by (λ row. sum_by (λ way. sum_by f way) row) ways

-- of each node the excess, the label and what it can still give the sink ("room"); of each
-- direction its lane; of each ordered pair of blocks the way; and what the sink got
pub record State : Type 0 where
  pub net : Network
  pub blocks : ℕ
  pub excess : List ℕ
  pub labels : List ℕ
  pub rooms : List ℕ
  pub lanes : Lanes
  pub ways : List (List (List Message))
  pub got : ℕ

abbrev pub excess_of : State → ℕ → ℕ
excess_of s v = slice_index s.excess v

abbrev pub label_of : State → ℕ → ℕ
label_of s v = slice_index s.labels v

abbrev pub room_of : State → ℕ → ℕ
room_of s v = slice_index s.rooms v

abbrev pub residual_of : State → Direction → ℕ
residual_of s x = (lane_at s.lanes x).residual

abbrev pub known_of : State → Direction → ℕ
known_of s x = (lane_at s.lanes x).known

abbrev pub flight_of : State → Direction → Option Flight
flight_of s x = (lane_at s.lanes x).flight

-- node v of n nodes lies in block v * blocks / n
abbrev pub block_of : Network → ℕ → ℕ → ℕ
block_of net blocks v = (v * blocks) / nodes net

abbrev pub near_block : Network → ℕ → Direction → ℕ
near_block net blocks x = block_of net blocks (near net x)

abbrev pub far_block : Network → ℕ → Direction → ℕ
far_block net blocks x = block_of net blocks (far net x)

-- do the ends lie in two blocks? Such a direction is a border direction, each other an inner one
abbrev pub is_border : Network → ℕ → Direction → Bool
is_border net blocks x = not (near_block net blocks x == far_block net blocks x)

-- the label that the block of the near end goes by: at a border the one that it knows
abbrev pub seen_label : State → Direction → ℕ
seen_label s x = cond (is_border s.net s.blocks x) (known_of s x) (label_of s (far s.net x))

abbrev pub IsWay : State → ℕ → ℕ → Type 0
IsWay s b c = (b < s.blocks) × (c < s.blocks)
