-- What a block's lists hold.
use Rattle.block_net.specs.declared.cells.Cells.TheInside.{Inside}
use Rattle.block_net.specs.Views.{CellsView}

abbrev pub cells_view : Inside → CellsView
cells_view c = record {
  top = c.top;
  excess = c.excess.items;
  labels = c.labels.items;
  rooms = c.rooms.items;
  starts = c.starts.items;
  lanes = c.lanes.items;
  border_starts = c.border_starts.items;
  borders = c.borders.items;
}
