use Rattle.std.proofs.Common.{◌<◌, ◌≤◌, ℕ, slice_index}
use Rattle.flow_network.specs.Preflow.{arc_at}
use Rattle.flow_network.proofs.check.arcs_within.Given as goal

abbrev pub invariant-loop-k : goal.invariant-loop-k
invariant-loop-k l = (k : ℕ) → k < l.k → slice_index l.arc_flow k ≤ (arc_at l.net k).capacity
