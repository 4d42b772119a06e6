use Rattle.std.proofs.Common.{◌≡◌, ℕ, ◌<◌, ◌≤◌}
use Rattle.block_net.specs.Views.{first_border}
use Rattle.block_discharge.specs.Steps.{IsSure, Send}
use Rattle.block_discharge.specs.Works.{DoesEvents}
use Rattle.block_discharge.proofs.one_node.send_all.Given as goal

abbrev pub invariant-borders : goal.invariant-borders
invariant-borders g l = record {
  identity : g.W.Ways.identity l.ways ≡ g.W.Ways.identity l.fn.ways;
  few : l.count ≤ l.limit;
  does : DoesEvents l.fn.cells.block (g.W.Ways.seen l.fn.ways) l.count l.cells.block (g.W.Ways.seen l.ways);
  same : l.count ≡ 0 → l.cells ≡ l.fn.cells;
  idle : l.count ≡ 0 → (i : ℕ) → first_border l.fn.cells.block l.v ≤ i → i < l.j → ¬ IsSure l.fn.cells.block (g.W.Ways.seen l.fn.ways) (Send l.v i);
}
