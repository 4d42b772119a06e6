-- What passes over the blocks make of the pieces of a state.
use Rattle.std.specs.Prelude.{◌≡◌, ℕ, ◌+◌, ◌<◌, ◌≤◌, List, length}
use Rattle.block_events.specs.declared.event.Event.{Event}
use Rattle.block_events.specs.declared.message.Message.{Message}
use Rattle.block_events.specs.States.{State}
use Rattle.block_events.specs.Events.{IsQuiet}
use Rattle.block_events.specs.Workers.{MayStart}
use Rattle.block_events.specs.Soundness.{IsSound, potential}
use Rattle.block_net.specs.Views.{CellsView}
use Rattle.block_net.specs.Whole.{with_blocks}
use Rattle.block_split.specs.Split.{whole_of}
use Rattle.block_events.specs.Effects.{state_of}
use Rattle.net_in_blocks.specs.Views.{IsLaid, blocks_in}
use Rattle.block_state.specs.AllWays.{AllWaysView, IsHeld}
use Rattle.block_state.specs.declared.pieces.Pieces.{Pieces}
use Rattle.block_state.specs.Pieces.{state_in}

-- the state that other blocks of the pieces' net make with these ways
abbrev pub state_at : Pieces → List CellsView → List (List (List Message)) → ℕ → State
state_at p blocks messages got =
    state_of (blocks_in (with_blocks (whole_of p.net p.parts) blocks)) messages got

-- as many blocks and ways with the same rooms make a sound state of the pieces' net, whose count
-- lies at least n below that of the state in the pieces
pub record IsGoing (p : Pieces) (blocks : List CellsView) (ways : AllWaysView)
    (n : ℕ) : Type 0 where
  pub got : ℕ
  pub size : length blocks ≡ length p.parts.blocks.items
  pub rooms : ways.rooms ≡ p.ways.rooms
  pub laid : IsLaid (with_blocks (whole_of p.net p.parts) blocks)
  pub sound : IsSound (state_at p blocks ways.messages got)
  pub lower : potential (state_at p blocks ways.messages got) + n ≤ potential (state_in p)

-- a held state with no message on the way
pub record IsQuietAndHeld (p : Pieces) : Type 0 where
  pub quiet : IsQuiet (state_in p)
  pub held : IsHeld p.ways.rooms (state_in p)

-- the state is as it was, and none of the first so many blocks may do an event that takes no
-- message
pub record IsStill (p : Pieces) (blocks : List CellsView) (ways : AllWaysView)
    (first : ℕ) : Type 0 where
  pub same : state_at p blocks ways.messages p.got ≡ state_in p
  pub none : (b : ℕ) → b < first → (e : Event) → ¬ MayStart b (state_in p) e
