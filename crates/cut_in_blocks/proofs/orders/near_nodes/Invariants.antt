use Rattle.std.proofs.Common.{◌≤◌}
use Rattle.cut_in_blocks.proofs.orders.near_nodes.Given as goal

abbrev pub invariant-nodes : goal.invariant-nodes
invariant-nodes g l = (l.near ≤ l.place) × (l.holders ≤ l.place)
