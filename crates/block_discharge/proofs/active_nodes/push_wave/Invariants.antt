use Rattle.std.proofs.Common.{◌≡◌, ◌≤◌}
use Rattle.block_discharge.specs.Works.{DoesEvents}
use Rattle.block_discharge.proofs.active_nodes.push_wave.Given as goal

abbrev pub invariant-wave : goal.invariant-wave
invariant-wave g l = record {
  identity : g.W.Ways.identity l.ways ≡ g.W.Ways.identity l.fn.ways;
  few : l.count ≤ l.limit;
  same : l.count ≡ 0 → l.cells ≡ l.fn.cells;
  does : DoesEvents l.fn.cells.block (g.W.Ways.seen l.fn.ways) l.count l.cells.block (g.W.Ways.seen l.ways);
}
