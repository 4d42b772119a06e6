use Rattle.std.proofs.Common.{◌≡◌, ℕ, ◌<◌, ◌≤◌, slice_index}
use Rattle.block_discharge.specs.Works.{DoesEvents, IsIdleFrom}
use Rattle.block_discharge.proofs.messages.receive_all.Given as goal

abbrev pub invariant-others : goal.invariant-others
invariant-others g l = record {
  identity : g.W.Ways.identity l.ways ≡ g.W.Ways.identity l.fn.ways;
  few : l.count ≤ l.limit;
  does : DoesEvents l.fn.cells.block (g.W.Ways.seen l.fn.ways) l.count l.cells.block (g.W.Ways.seen l.ways);
  same : l.count ≡ 0 → l.cells ≡ l.fn.cells;
  idle : l.count ≡ 0 → (0 < l.limit) → (k : ℕ) → k < l.i → IsIdleFrom l.fn.cells.block (g.W.Ways.seen l.fn.ways) (slice_index l.others k);
}
