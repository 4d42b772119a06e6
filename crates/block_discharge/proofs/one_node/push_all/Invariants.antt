use Rattle.std.proofs.Common.{◌≡◌, ℕ, ◌<◌, ◌≤◌}
use Rattle.block_net.specs.Views.{first_lane}
use Rattle.block_discharge.specs.Seen.{WaysView}
use Rattle.block_net.specs.Views.{MayPush}
use Rattle.block_discharge.specs.Works.{DoesEvents}
use Rattle.block_discharge.proofs.one_node.push_all.Given as goal

abbrev pub invariant-lanes : goal.invariant-lanes
invariant-lanes l = record {
  few : l.count ≤ l.limit;
  does : (s : WaysView) → DoesEvents l.fn.cells.block s l.count l.cells.block s;
  same : l.count ≡ 0 → l.cells ≡ l.fn.cells;
  idle : l.count ≡ 0 → (i : ℕ) → first_lane l.fn.cells.block l.v ≤ i → i < l.j → ¬ MayPush l.fn.cells.block l.v i;
}
