-- A block of what it is made of.
use Rattle.std.specs.Prelude.{ℕ, List}
use Rattle.block_net.specs.declared.nodes.Nodes.{Nodes}
use Rattle.block_net.specs.declared.lanes.InnerLane.{InnerLane}
use Rattle.block_net.specs.declared.lanes.Border.{Border}
use Rattle.block_net.specs.Views.{CellsView}

-- a block by its nodes and the directions that leave them, and by where those of each node begin
abbrev pub cells_of : ℕ → Nodes → List ℕ → List InnerLane → List ℕ → List Border → CellsView
cells_of top nodes starts lanes border_starts borders = record {
  top = top;
  excess = nodes.excess.items;
  labels = nodes.labels.items;
  rooms = nodes.rooms.items;
  starts = starts;
  lanes = lanes;
  border_starts = border_starts;
  borders = borders;
}
