use Rattle.std.proofs.Common.{◌≡◌, ◌⊎◌, ℕ, ◌<◌}
use Rattle.block_discharge.specs.Standing.{IsAside, waiting_count}
use Rattle.block_discharge.specs.Works.{DoesEvents, IsIdle}
use Rattle.block_discharge.proofs.active_nodes.pass.Given as goal

abbrev pub decreases-nodes : goal.decreases-nodes
decreases-nodes g l = waiting_count l.cells

abbrev pub invariant-nodes : goal.invariant-nodes
invariant-nodes g l = record {
  identity : g.W.Ways.identity l.ways ≡ g.W.Ways.identity l.fn.ways;
  does : DoesEvents l.fn.cells.block (g.W.Ways.seen l.fn.ways) 0 l.cells.block (g.W.Ways.seen l.ways);
  idle : 0 < l.limit → (v : ℕ) → IsAside l.cells v → IsAside l.fn.cells v ⊎ IsIdle l.fn.cells.block (g.W.Ways.seen l.fn.ways) v;
}
