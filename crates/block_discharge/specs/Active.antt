-- The nodes of a block that have something to do.
use Rattle.std.specs.Prelude.{ℕ, ◌<◌}
use Rattle.block_net.specs.Views.{CellsView, count, excess_in, label_in}

-- the node has excess, and is not cut off
pub record IsActiveInBlock (b : CellsView) (v : ℕ) : Type 0 where
  pub node : v < count b
  pub excess : 0 < excess_in b v
  pub below : label_in b v < b.top
