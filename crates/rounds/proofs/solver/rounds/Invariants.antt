use Rattle.std.proofs.Common.{◌≡◌}
use Rattle.block_events.specs.Events.{IsQuiet}
use Rattle.global_relabel.specs.Workspaces.{Serves}
use Rattle.rounds.proofs.solver.rounds.Given as goal

abbrev pub invariant-rounds : goal.invariant-rounds
invariant-rounds g l = IsQuiet l.state × (l.state.net ≡ l.fn.state.net) × Serves l.state.net l.search.workspace
