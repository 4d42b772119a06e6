-- The laws of seats, over the definitions alone.
use Rattle.std.specs.Prelude.{◌≡◌, ◌≢◌, ℕ, ◌+◌, ◌<◌, ◌≤◌, List, length, sum, sum_by, All}
use Rattle.block_events.specs.declared.event.Event.{Event}
use Rattle.block_events.specs.States.{way_at}
use Rattle.block_events.specs.Events.{IsQuiet}
use Rattle.block_events.specs.Soundness.{IsSound}
use Rattle.block_events.specs.Workers.{MayStart}
use Rattle.block_net.specs.Views.{CellsView, count}
use Rattle.block_net.specs.Whole.{Whole, block_at}
use Rattle.block_events.specs.Effects.{state_of}
use Rattle.net_in_blocks.specs.Views.{IsLaid, blocks_in}
use Rattle.block_state.specs.AllWays.{HasRooms, IsHeld, room_at}
use Rattle.block_discharge.specs.Seen.{WaysView}
use Rattle.block_discharge.specs.Steps.{Step, IsSure}
use Rattle.cut_in_blocks.specs.TurnEvents.{HasRoom}
use Rattle.cut_in_blocks.specs.Rounds.{Ways, AreBack, IsRoundOfTurns, quiet_state, state_after}

-- blocks that came back are a round
abbrev pub SeatsMakeRound : Type 0
SeatsMakeRound =
    (w : Whole) (got : ℕ) (blocks : List CellsView) (left : Ways)
    → IsLaid w → IsSound (quiet_state w got) → (back : AreBack w got blocks left)
    → IsRoundOfTurns w got blocks left back.steps

-- where an event of block b that takes no message is enabled before the round, a step of it is sure
abbrev pub StartIsSure : Type 0
StartIsSure =
    (w : Whole) (b got : ℕ) (s : WaysView) (e : Event)
    → IsLaid w → b < length w.blocks → HasRoom (block_at w b) s → MayStart b (quiet_state w got) e
    → (step : Step) × IsSure (block_at w b) s step

-- in a sound state the rooms of all blocks lack what the sink got
abbrev pub RoomsTellGot : Type 0
RoomsTellGot =
    (w : Whole) (got : ℕ) (ways : Ways)
    → IsLaid w → All (λ B. length B.rooms ≡ count B) w.blocks
    → IsSound (state_of (blocks_in w) ways got)
    → got + sum_by (λ B. sum B.rooms) w.blocks ≡ sum w.net.sinks

-- a sound and quiet state of blocks is one before a round
abbrev pub QuietIsStart : Type 0
QuietIsStart =
    (w : Whole) (got : ℕ) (ways : Ways)
    → IsSound (state_of (blocks_in w) ways got) → IsQuiet (state_of (blocks_in w) ways got)
    → state_of (blocks_in w) ways got ≡ quiet_state w got

-- after a round what is left on the ways has room there, and the state is held
abbrev pub RoundIsHeld : Type 0
RoundIsHeld =
    (w : Whole) (got : ℕ) (blocks : List CellsView) (left : Ways) (steps : ℕ → ℕ)
    (rooms : List (List ℕ))
    → HasRooms w.net (length w.blocks) rooms → IsRoundOfTurns w got blocks left steps
    → IsHeld rooms (state_after w blocks left)
    × ((b c : ℕ) → b < length w.blocks → c < length w.blocks → b ≢ c
    → length (way_at left b c) ≤ room_at rooms b c)
