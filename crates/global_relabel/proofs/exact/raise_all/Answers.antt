use Rattle.std.proofs.Common.{subst}
use Rattle.flow_network.specs.Cut.{Network}
use Rattle.global_relabel.specs.Workspaces.{Serves}
use Rattle.global_relabel.proofs.exact.raise_all.Goals as goal

pub raise-requires-clause-serves : goal.raise-requires-clause-serves
raise-requires-clause-serves c =
    subst (λ (n : Network). Serves n c.in_ok-workspace.workspace) c.net.ensures.value c.in_ok-workspace.ensures
