-- One turn of a block over the core's ways.
use Rattle.std.specs.Prelude.{◌≡◌, ℕ, ◌+◌, ◌≤◌, List, length}
use Rattle.block_events.specs.declared.event.Event.{Event}
use Rattle.block_events.specs.declared.message.Message.{Message}
use Rattle.block_events.specs.Events.{IsRunOfEvents}
use Rattle.block_events.specs.Soundness.{IsSound, potential}
use Rattle.block_net.specs.Views.{CellsView}
use Rattle.block_net.specs.Whole.{Whole}
use Rattle.cut_in_blocks.specs.Seats.{IsSeated, state_with}

-- n events of the core lead from the state with the one block and ways to that with the other,
-- which is sound, and the count falls by at least as much
pub record IsTurnFrom
    (w : Whole) (b got n : ℕ) (old new : CellsView) (before after : List (List (List Message)))
    : Type 0 where
  pub events : List Event
  pub number : length events ≡ n
  pub got' : ℕ
  pub run : IsRunOfEvents (state_with w b old before got) events (state_with w b new after got')
  pub seated : IsSeated w b new
  pub sound : IsSound (state_with w b new after got')
  pub lower : potential (state_with w b new after got') + n
      ≤ potential (state_with w b old before got)

-- this holds of each whole of so many blocks in which the block stands, and of what the sink got,
-- where the state is sound
abbrev pub ReachesFrom
    : ℕ → ℕ → ℕ → CellsView → CellsView → List (List (List Message))
    → List (List (List Message)) → Type 0
ReachesFrom blocks b n old new before after =
    (w : Whole) (got : ℕ)
    → length w.blocks ≡ blocks → IsSeated w b old → IsSound (state_with w b old before got)
    → IsTurnFrom w b got n old new before after
