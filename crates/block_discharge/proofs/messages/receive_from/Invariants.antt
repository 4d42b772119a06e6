use Rattle.std.proofs.Common.{◌≡◌}
use Rattle.block_discharge.specs.Works.{DoesEvents}
use Rattle.block_discharge.proofs.messages.receive_from.Given as goal

abbrev pub invariant-messages : goal.invariant-messages
invariant-messages g l = record {
  identity : g.W.Ways.identity l.ways ≡ g.W.Ways.identity l.fn.ways;
  does : DoesEvents l.fn.cells.block (g.W.Ways.seen l.fn.ways) l.count l.cells.block (g.W.Ways.seen l.ways);
  same : l.count ≡ 0 → l.cells ≡ l.fn.cells;
}
