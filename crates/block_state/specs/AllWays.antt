-- The ways between blocks, and for how many messages each has room.
use Rattle.std.specs.Prelude.{ℕ, ◌≡◌, ◌<◌, ◌≤◌, List, [], length, slice_index, slice_index_or}
use Rattle.flow_network.specs.Cut.{Network}
use Rattle.block_events.specs.declared.message.Message.{Message}
use Rattle.block_events.specs.States.{State}
use Rattle.block_events.specs.Soundness.{IsSound, room_between}
use Rattle.block_net.specs.Limits.{arc_limit, block_limit}

pub record AllWaysView : Type 0 where
  pub messages : List (List (List Message))
  pub rooms : List (List ℕ)

abbrev pub all_ways_view : List (List (List Message)) → List (List ℕ) → AllWaysView
all_ways_view messages rooms = record { messages = messages; rooms = rooms }

abbrev pub room_at : List (List ℕ) → ℕ → ℕ → ℕ
room_at rooms b c = slice_index (slice_index_or rooms b []) c

-- each way between two blocks has room for a message of each direction between them
abbrev pub HasRooms : Network → ℕ → List (List ℕ) → Type 0
HasRooms net blocks rooms =
    (b c : ℕ) → b < blocks → c < blocks → (b ≡ c → ⊥)
    → room_between net blocks b c ≤ room_at rooms b c

-- a sound state, and ways that have room
pub record IsHeld (rooms : List (List ℕ)) (s : State) : Type 0 where
  pub sound : IsSound s
  pub few : s.blocks ≤ block_limit
  pub arcs : length s.net.arcs ≤ arc_limit
  pub room : HasRooms s.net s.blocks rooms
