use Rattle.std.proofs.Common.{ℕ, ◌≤◌}
use Rattle.block_discharge.proofs.Placing.{RightBut}
use Rattle.block_discharge.proofs.bucketed.Bucketed.new.Given as goal

abbrev pub invariant-nodes : goal.invariant-nodes
invariant-nodes l = RightBut l.cells l.buckets (λ (u : ℕ). l.v ≤ u) (λ (u : ℕ). l.v ≤ u)
