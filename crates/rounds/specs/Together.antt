-- The pieces of a state, before a round and after it.
use Rattle.std.specs.Prelude.{◌≡◌, ℕ, ◌+◌, ◌*◌, ◌<◌, ◌≤◌, List, length}
use Rattle.sums.specs.Sums.{sum_below}
use Rattle.flow_network.specs.Cut.{Network}
use Rattle.block_events.specs.States.{State}
use Rattle.block_net.specs.Views.{CellsView, count}
use Rattle.block_net.specs.Whole.{Whole, block_at}
use Rattle.block_split.specs.declared.parts.Parts.{Parts}
use Rattle.block_split.specs.Split.{whole_of}
use Rattle.block_events.specs.Effects.{state_of}
use Rattle.net_in_blocks.specs.Views.{IsLaid, blocks_in}
use Rattle.cut_in_blocks.specs.Rounds.{Ways, AreBack, rooms_lack}
use Rattle.block_rings.specs.Links.{RingsView, sent_in, taken_in}
use Rattle.block_rings.specs.Left.{AreLeft}

-- the state that the blocks show with the messages on the way: the sink got what the rooms lack
abbrev pub gathered_state : Network → Parts → Ways → State
gathered_state net parts ways =
    state_of (blocks_in (whole_of net parts)) ways (rooms_lack (whole_of net parts))

-- the blocks are back, each after turn 0 and so many turns that it drew: a turn has at most 16
-- events more than the block has nodes
pub record AreBackAfter (drawn : ℕ → ℕ) (w : Whole) (got : ℕ) (new : List CellsView) (left : Ways)
    : Type 0 where
  pub back : AreBack w got new left
  pub few : (b : ℕ) → b < length w.blocks
      → back.steps b ≤ (drawn b + 1) * (count (block_at w b) + 16)

-- the blocks worked and drew at most so many turns, and what they left is in the rings: with it on
-- the way they are back
pub record HaveRun (turns : ℕ) (old new : List CellsView) (rings : RingsView) : Type 0 where
  pub blocks : rings.blocks ≡ length old
  pub drawn : ℕ → ℕ
  pub few : sum_below (length old) drawn ≤ turns
  pub back : (w : Whole) (got : ℕ) (left : Ways) → w.blocks ≡ old → IsLaid w
      → AreLeft rings.blocks (sent_in rings) (taken_in rings) left
      → AreBackAfter drawn w got new left
