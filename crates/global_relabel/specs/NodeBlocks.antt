-- The block of each node.
use Rattle.std.specs.Prelude.{◌≡◌, ℕ, ◌<◌, List, length, slice_index}
use Rattle.flow_network.specs.Cut.{Network, nodes}
use Rattle.block_events.specs.States.{block_of}

-- the numbers are those of the blocks that the nodes lie in, of so many blocks
pub record AreNodeBlocks (net : Network) (blocks : ℕ) (node_blocks : List ℕ) : Type 0 where
  pub len : length node_blocks ≡ nodes net
  pub node_block : (v : ℕ) → v < nodes net → slice_index node_blocks v ≡ block_of net blocks v
