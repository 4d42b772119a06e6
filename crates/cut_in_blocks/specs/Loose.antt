-- Pushes that ask for less than the events do: an amount goes on wherever the labels stay valid.
use Rattle.std.specs.Prelude.{ℕ, ◌+◌, ◌<◌, ◌≤◌, List, length}
use Rattle.block_events.specs.declared.message.Message.{Message}
use Rattle.block_events.specs.Soundness.{IsSound}
use Rattle.block_net.specs.Views.{CellsView, count, excess_in, label_in, room_in, lane_in}
use Rattle.block_net.specs.Views.{cells_after_push, cells_after_sink_push}
use Rattle.block_net.specs.Whole.{Whole}
use Rattle.block_discharge.specs.Steps.{IsOfNode}
use Rattle.cut_in_blocks.specs.Seats.{IsSeated, state_with}

-- the block stands in its place among the others, in a sound state
pub record IsInPlace (w : Whole) (b : ℕ) (B : CellsView)
    (ways : List (List (List Message))) (got : ℕ)
    : Type 0 where
  pub seated : IsSeated w b B
  pub sound : IsSound (state_with w b B ways got)

-- an amount of a node's excess that a direction can carry goes on to a node that is at most one
-- label higher
abbrev pub LoosePushKeeps : Type 0
LoosePushKeeps =
    (w : Whole) (b : ℕ) (B : CellsView) (ways : List (List (List Message))) (got p j a : ℕ)
    → IsInPlace w b B ways got
    → p < count B → IsOfNode B p j → a ≤ excess_in B p → a ≤ (lane_in B j).residual
    → label_in B (lane_in B j).far ≤ label_in B p + 1
    → IsInPlace w b (cells_after_push B p j a) ways got

-- an amount of a node's excess that it can give the sink goes there
abbrev pub LooseGiveKeeps : Type 0
LooseGiveKeeps =
    (w : Whole) (b : ℕ) (B : CellsView) (ways : List (List (List Message))) (got p a : ℕ)
    → IsInPlace w b B ways got
    → p < count B → p < length B.rooms → a ≤ excess_in B p → a ≤ room_in B p
    → IsInPlace w b (cells_after_sink_push B p a) ways (got + a)
