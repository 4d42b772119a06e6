-- The laws of turns, over the definitions alone.
use Rattle.std.specs.Prelude.{◌≡◌, ◌≢◌, ℕ, ◌+◌, ◌<◌, ◌≤◌, true, List, [], ◌++◌, length}
use Rattle.block_events.specs.declared.event.Event.{Event}
use Rattle.block_events.specs.declared.message.Message.{Message}
use Rattle.block_events.specs.States.{way_at}
use Rattle.block_events.specs.Events.{IsRunOfEvents}
use Rattle.block_events.specs.Soundness.{IsSound, IsSquare, potential}
use Rattle.block_events.specs.Workers.{IsHistory, MayStart}
use Rattle.block_net.specs.Views.{CellsView, border_in}
use Rattle.block_net.specs.Whole.{Whole}
use Rattle.block_discharge.specs.Seen.{WaysView}
use Rattle.block_discharge.specs.Steps.{Step, TurnView, DoesMany, IsSure}
use Rattle.cut_in_blocks.specs.Seats.{IsSeated, state_with, shown_by}

-- n events of block b lead from what it shows to what it shows afterwards
pub record IsLed (w : Whole) (b got n : ℕ) (old new : TurnView) : Type 0 where
  pub events : List Event
  pub number : length events ≡ n
  pub got' : ℕ
  pub history : IsHistory b (shown_by w b old got) events (shown_by w b new got')
  pub seated : IsSeated w b new.block

-- a list of a block's own steps is a history of the block
abbrev pub TurnIsHistory : Type 0
TurnIsHistory =
    (w : Whole) (b got n : ℕ) (old new : TurnView)
    → IsSeated w b old.block → DoesMany old n new → IsLed w b got n old new

-- ---- on one thread

-- what a turn of block b makes of the ways between n blocks: what it put stands at their ends, of
-- those to it so much is left, and the ways between two other blocks stay
pub record IsTurned (n b : ℕ) (sent left : ℕ → List Message)
    (before after : List (List (List Message)))
    : Type 0 where
  pub puts : (c : ℕ) → c < n → b ≢ c → way_at after b c ≡ way_at before b c ++ sent c
  pub takes : (c : ℕ) → c < n → b ≢ c → way_at after c b ≡ left c
  pub others : (a c : ℕ) → b ≢ a → b ≢ c → way_at after a c ≡ way_at before a c
  pub own : way_at after b b ≡ way_at before b b
  pub square : IsSquare n after

-- n events of the core lead from the state with the one block to that with the other, and the count
-- falls by at least as much
pub record IsTurnRun
    (w : Whole) (b got n : ℕ) (old new : TurnView) (left : ℕ → List Message)
    (ways : List (List (List Message)))
    : Type 0 where
  pub events : List Event
  pub number : length events ≡ n
  pub got' : ℕ
  pub ways' : List (List (List Message))
  pub run : IsRunOfEvents (state_with w b old.block ways got) events
      (state_with w b new.block ways' got')
  pub turned : IsTurned (length w.blocks) b new.sent left ways ways'
  pub seated : IsSeated w b new.block
  pub sound : IsSound (state_with w b new.block ways' got')
  pub lower : potential (state_with w b new.block ways' got') + n
      ≤ potential (state_with w b old.block ways got)

-- a list of a block's own steps, which took what stood in front of the ways of a sound state, is a
-- run of the core
abbrev pub TurnIsRun : Type 0
TurnIsRun =
    (w : Whole) (b got n : ℕ) (old new : TurnView) (left : ℕ → List Message)
    (ways : List (List (List Message)))
    → IsSeated w b old.block → IsSound (state_with w b old.block ways got)
    → ((c : ℕ) → (old.sent c ≡ []) × (old.taken c ≡ []))
    → DoesMany old n new
    → ((c : ℕ) → c < length w.blocks → b ≢ c → way_at ways c b ≡ new.taken c ++ left c)
    → IsTurnRun w b got n old new left ways

-- ---- what is sure

-- room is seen for a message to each block that a direction leads to
abbrev pub HasRoom : CellsView → WaysView → Type 0
HasRoom B s = (j : ℕ) → j < length B.borders → s.room (border_in B j).to ≡ true

-- where an event of the block that takes no message is enabled, a step is sure
abbrev pub StartIsStep : Type 0
StartIsStep =
    (w : Whole) (b got : ℕ) (h : TurnView) (s : WaysView) (e : Event)
    → IsSeated w b h.block → HasRoom h.block s → MayStart b (shown_by w b h got) e
    → (step : Step) × IsSure h.block s step
