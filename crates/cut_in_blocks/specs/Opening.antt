-- What the first pushes make of the blocks.
use Rattle.std.specs.Prelude.{◌≡◌, ℕ, ◌<◌, min, List, length, slice_index_or}
use Rattle.block_events.specs.declared.message.Message.{Message}
use Rattle.block_events.specs.States.{State, excess_of, label_of, room_of}
use Rattle.block_events.specs.Soundness.{IsSound}
use Rattle.flow_network.specs.Cut.{nodes}
use Rattle.block_net.specs.Views.{CellsView, count, excess_in, label_in, room_in}
use Rattle.block_net.specs.Whole.{Whole, no_block, block_at, with_blocks}
use Rattle.block_split.specs.Split.{whole_of}
use Rattle.net_in_blocks.specs.Views.{IsLaid}
use Rattle.block_state.specs.declared.pieces.Pieces.{Pieces}
use Rattle.cut_in_blocks.specs.Loose.{IsInPlace}
use Rattle.cut_in_blocks.specs.Passes.{state_at}

-- all labels of a block are 0
abbrev pub IsFlat : CellsView → Type 0
IsFlat B = (v : ℕ) → v < count B → label_in B v ≡ 0

-- all labels of a state are 0
abbrev pub AreLabelsZero : State → Type 0
AreLabelsZero s = (v : ℕ) → v < nodes s.net → label_of s v ≡ 0

-- the same nodes with the same labels and as many directions; where all labels are 0 and the one
-- block stands in its place in a sound state, so does the other, by another amount that the sink
-- got
pub record Opens (old new : CellsView) : Type 0 where
  pub nodes : count new ≡ count old
  pub starts : new.starts ≡ old.starts
  pub lanes : length new.lanes ≡ length old.lanes
  pub labels : new.labels ≡ old.labels
  pub stands : (w : Whole) (b : ℕ) (ways : List (List (List Message))) (got : ℕ)
      → IsFlat old → IsInPlace w b old ways got → (got' : ℕ) × IsInPlace w b new ways got'

-- as many blocks make a sound state of the pieces' net with the pieces' ways, and all their labels
-- are 0
pub record AreOpening (p : Pieces) (blocks : List CellsView) : Type 0 where
  pub got : ℕ
  pub size : length blocks ≡ length p.parts.blocks.items
  pub laid : IsLaid (with_blocks (whole_of p.net p.parts) blocks)
  pub sound : IsSound (state_at p blocks p.ways.messages got)
  pub flat : (b : ℕ) → b < length blocks
      → IsFlat (block_at (with_blocks (whole_of p.net p.parts) blocks) b)

-- of the first n nodes of a block none can give the sink more of its excess
abbrev pub HaveGiven : ℕ → CellsView → Type 0
HaveGiven n B = (v : ℕ) → v < n → min (excess_in B v) (room_in B v) ≡ 0

-- of no block a node can
abbrev pub AllBlocksGave : List CellsView → Type 0
AllBlocksGave blocks = (b : ℕ) → b < length blocks
    → HaveGiven (count (slice_index_or blocks b no_block)) (slice_index_or blocks b no_block)

-- no node of a state can
abbrev pub AllHaveGiven : State → Type 0
AllHaveGiven s = (v : ℕ) → v < nodes s.net → min (excess_of s v) (room_of s v) ≡ 0
