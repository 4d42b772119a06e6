use Rattle.std.proofs.Common.{sym, ap, subst}
use Rattle.flow_network.specs.Cut.{Network}
use Rattle.block_events.specs.States.{State}
use Rattle.global_relabel.specs.Workspaces.{Serves}
use Rattle.global_relabel.proofs.workspace.Workspace.raise.Goals as goal

pub raise_to-requires-clause-exact : goal.raise_to-requires-clause-exact
raise_to-requires-clause-exact c = rw c.as_slice.ensures.value c.find.ensures.exact

pub returns-clause-serves : goal.returns-clause-serves
returns-clause-serves c =
    let same = ap (λ (s : State). s.net) c.raise_to.ensures.effect.2 in
    subst (λ (n : Network). Serves n c.find.new.self) (sym same) c.find.ensures.serves
