-- Blocks before a round, and as they come back from the workers that held them.
use Rattle.std.specs.Prelude.{◌≡◌, ◌≢◌, ℕ, ◌-◌, ◌<◌, List, [], ◌++◌, length, slice_index_or, sum}
use Rattle.block_events.specs.declared.event.Event.{Event}
use Rattle.block_events.specs.declared.message.Message.{Message}
use Rattle.block_events.specs.States.{State, way_at}
use Rattle.block_events.specs.Soundness.{IsSound, IsSquare}
use Rattle.block_events.specs.Workers.{MayStart}
use Rattle.block_events.specs.Rounds.{RoundOf}
use Rattle.block_events.specs.RoundLaws.{no_messages}
use Rattle.block_net.specs.Views.{CellsView}
use Rattle.block_net.specs.Whole.{Whole, block_at, with_blocks}
use Rattle.block_events.specs.Effects.{state_of}
use Rattle.net_in_blocks.specs.Views.{IsLaid, blocks_in}
use Rattle.block_discharge.specs.Steps.{TurnView, DoesMany}

-- of each block and each block, the messages on the way from the one to the other
abbrev pub Ways : Type 0
Ways = List (List (List Message))

-- ---- before a round

-- a block that has put and taken nothing yet
abbrev pub fresh : CellsView → TurnView
fresh B = record { block = B; sent = λ c. []; taken = λ c. [] }

-- the state that the blocks show where no message is on the way
abbrev pub quiet_state : Whole → ℕ → State
quiet_state w got = state_of (blocks_in w) (no_messages (length w.blocks)) got

-- ---- after it

-- what one block put for another is what the other took from it, followed by what is left on the
-- way
pub record AreLeft (blocks : ℕ) (sent taken : ℕ → ℕ → List Message) (left : Ways) : Type 0 where
  pub square : IsSquare blocks left
  pub none : (b : ℕ) → b < blocks → way_at left b b ≡ []
  pub ways : (b c : ℕ) → b < blocks → c < blocks → b ≢ c → sent b c ≡ taken c b ++ way_at left b c

-- each block did steps of a turn and came back, and these messages are left on the way
pub record AreBack (w : Whole) (got : ℕ) (blocks : List CellsView) (left : Ways) : Type 0 where
  -- what block b put for c, what it took from c, and how many steps it did
  pub sent : ℕ → ℕ → List Message
  pub taken : ℕ → ℕ → List Message
  pub steps : ℕ → ℕ
  pub many : length blocks ≡ length w.blocks
  pub does : (b : ℕ) → b < length w.blocks
      → DoesMany (fresh (block_at w b)) (steps b)
      (record { block = block_at (with_blocks w blocks) b; sent = sent b; taken = taken b })
  pub rest : AreLeft (length w.blocks) sent taken left
  -- a block that could do something without taking a message did something
  pub busy : (b : ℕ) (e : Event) → b < length w.blocks
      → MayStart b (quiet_state w got) e → 0 < steps b

-- what the rooms lack of what the nodes can send the sink
abbrev pub rooms_lack : Whole → ℕ
rooms_lack w = sum w.net.sinks - sum (blocks_in w).rooms

-- the state that they show then: the sink got what the rooms lack
abbrev pub state_after : Whole → List CellsView → Ways → State
state_after w blocks left =
    state_of (blocks_in (with_blocks w blocks)) left (rooms_lack (with_blocks w blocks))

-- a round of so many events of each block led there, the state is sound, and everything has its
-- place again
pub record IsRoundOfTurns (w : Whole) (got : ℕ) (blocks : List CellsView)
    (left : Ways) (steps : ℕ → ℕ)
    : Type 0 where
  pub round : RoundOf (quiet_state w got) (state_after w blocks left)
  pub numbers : (b : ℕ) → b < length w.blocks
      → length (slice_index_or round.histories b []) ≡ steps b
  pub sound : IsSound (state_after w blocks left)
  pub laid : IsLaid (with_blocks w blocks)
