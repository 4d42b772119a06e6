use Rattle.std.proofs.Common.{◌≡◌, ℕ, ◌<◌, [], length, map, get_or}
use Rattle.block_net.specs.Views.{CellsView}
use Rattle.block_rings.specs.Joining.{IsScanned}
use Rattle.block_rings.proofs.linked_blocks.all_scanned.Given as goal

abbrev pub invariant-loop-b : goal.invariant-loop-b
invariant-loop-b l = record {
  len : length l.rows.items ≡ l.b;
  each : (i : ℕ) (d : CellsView) → i < l.b → IsScanned (length l.cells) (get_or l.cells i d) (get_or (map (λ row. row.items) l.rows.items) i []);
}
