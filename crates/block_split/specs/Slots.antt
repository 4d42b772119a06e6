-- How the directions of a net find their slots.
use Rattle.std.specs.Prelude.{◌≡◌, ℕ, ◌<◌, List, Option, Some, Result, Ok, length, slice_index_or}
use Rattle.std.specs.declared.alloc.AllocError.{AllocError}
use Rattle.flow_network.specs.Cut.{IsNet}
use Rattle.block_net.specs.Views.{CellsView}
use Rattle.block_split.specs.declared.net_to_split.NetInBlocks.{NetInBlocks}
use Rattle.block_split.specs.declared.rows.SortedNet.{SortedNet}
use Rattle.block_split.specs.Split.{ByNode, CanSplit, node_blocks_made, firsts_made}
use Rattle.block_split.specs.Split.{starts_made}
use Rattle.block_split.specs.Split.{rows_made, block_made}

-- the net can be split, and the numbers are those that are made of it
pub record AreNumbersMade (split : NetInBlocks) : Type 0 where
  pub is_net : IsNet split.net.now
  pub can_split : CanSplit split.net.now split.blocks
  pub node_blocks_are : split.node_blocks.now ≡ node_blocks_made split.net.now split.blocks
  pub firsts_are : split.firsts.now ≡ firsts_made split.net.now split.blocks
  pub starts_are : split.starts.now ≡ starts_made split.net.now split.blocks

-- where the directions of each node begin, and the slot of each
abbrev pub split_rows : NetInBlocks → ByNode
split_rows split = rows_made split.net.now split.blocks

-- the net can be split, and its directions stand in the order of their keys, each with its slot
pub record IsNetSorted (sorted : SortedNet) : Type 0 where
  pub numbers : AreNumbersMade sorted.split
  pub places_are : sorted.places.now ≡ (split_rows sorted.split).places
  pub slots_are : sorted.slots.now ≡ (split_rows sorted.split).slots

-- each block that was made without an error is the net's
abbrev pub AreMadeOf : NetInBlocks → List (Option (Result CellsView AllocError)) → Type 0
AreMadeOf split made = (b : ℕ) (d : _) (cells : CellsView) → b < length made
    → slice_index_or made b d ≡ Some (Ok cells)
    → cells ≡ block_made split.net.now split.blocks (split_rows split) b
