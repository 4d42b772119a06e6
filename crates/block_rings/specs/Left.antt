-- What blocks left in the rings between them.
use Rattle.std.specs.Prelude.{◌≡◌, ◌≢◌, ℕ, ◌<◌, ◌≤◌, ◌^◌, List, [], length, drop, All}
use Rattle.block_events.specs.declared.message.Message.{Message}
use Rattle.block_events.specs.States.{way_at}
use Rattle.block_events.specs.Soundness.{direction_of}
use Rattle.block_state.specs.AllWays.{room_at}
pub use Rattle.cut_in_blocks.specs.Rounds.{AreLeft}

-- what is left from one block to another has room there
abbrev pub HaveRoomFor : ℕ → (ℕ → ℕ → ℕ) → List (List (List Message)) → Type 0
HaveRoomFor blocks room left = (b c : ℕ) → b < blocks → c < blocks
    → length (way_at left b c) ≤ room b c

-- what is left of what was put, where so much of it was taken
abbrev pub rest_of : List Message → List Message → List Message
rest_of sent taken = drop (length taken) sent

-- messages that ways keep
abbrev pub AreKeptByWays : List Message → Type 0
AreKeptByWays messages = All (λ m. (direction_of m).arc < 2 ^ 32) messages

-- each way between two blocks has room for what is left there, and keeps each of these messages
pub record AreFitting (blocks : ℕ) (rooms : List (List ℕ))
    (left : List (List (List Message))) : Type 0 where
  pub room : (b c : ℕ) → b < blocks → c < blocks → b ≢ c
      → length (way_at left b c) ≤ room_at rooms b c
  pub arcs : (b c : ℕ) → b < blocks → c < blocks → b ≢ c → AreKeptByWays (way_at left b c)

-- no message is on the way between so many blocks
abbrev pub AreWaysEmpty : ℕ → List (List (List Message)) → Type 0
AreWaysEmpty blocks ways = (b c : ℕ) → b < blocks → c < blocks → way_at ways b c ≡ []
