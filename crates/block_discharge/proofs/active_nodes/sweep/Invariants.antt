use Rattle.std.proofs.Common.{◌≡◌, ◌≤◌}
use Rattle.block_discharge.specs.Works.{DoesEvents}
use Rattle.block_discharge.proofs.active_nodes.sweep.Given as goal

abbrev pub invariant-passes : goal.invariant-passes
invariant-passes g l = record {
  identity : g.W.Ways.identity l.ways ≡ g.W.Ways.identity l.fn.ways;
  few : l.count ≤ l.limit;
  more : l.i ≤ l.count;
  rises : l.all_rises ≤ l.count;
  same : l.count ≡ 0 → l.cells ≡ l.fn.cells;
  does : DoesEvents l.fn.cells.block (g.W.Ways.seen l.fn.ways) l.count l.cells.block (g.W.Ways.seen l.ways);
}
