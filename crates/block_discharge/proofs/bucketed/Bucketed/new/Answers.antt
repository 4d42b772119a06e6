use Rattle.std.proofs.Common.{◌≤◌, ℕ, arith}
use Rattle.block_discharge.proofs.Placing.{renewed, but_fewer}
use Rattle.block_discharge.proofs.bucketed.Bucketed.new.Goals as goal

pub nodes-preserved : goal.nodes-preserved
nodes-preserved c =
    but_fewer _ _ _ _ _ _ (λ u p. omega (arith, p.0, p.1)) (λ u q. omega (arith, q.0, q.1)) (renewed _ _ _ (λ (u : ℕ). c.nodes.v ≤ u) (λ (u : ℕ). c.nodes.v ≤ u) c.nodes.v c.nodes.invariant c.move_up.ensures)
