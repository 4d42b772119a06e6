use Rattle.std.proofs.Common.{◌≡◌}
use Rattle.block_events.specs.Soundness.{potential}
use Rattle.global_relabel.specs.Workspaces.{Serves}
use Rattle.cut_in_blocks.proofs.solver.finish.Given as goal

abbrev pub invariant-rounds : goal.invariant-rounds
invariant-rounds l = Serves l.state.net l.workspace × (l.state.net ≡ l.fn.state.net)

abbrev pub decreases-rounds : goal.decreases-rounds
decreases-rounds l = potential l.state
