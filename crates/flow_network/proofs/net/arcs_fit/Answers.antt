use Rattle.std.proofs.Common.{All, refl}
use Rattle.std.proofs.lemmas.List.{take_all}
use Rattle.std.proofs.lemmas.List.Elements.{All-more}
use Rattle.flow_network.specs.Cut.{IsArc}
use Rattle.flow_network.proofs.net.arcs_fit.Goals as goal

pub loop-arc-preserved : goal.loop-arc-preserved
loop-arc-preserved c =
    All-more (IsArc c.args.nodes) c.args.arcs.now c.loop-arc.arc-index (record { from = 0; to = 0; capacity = 0 }) c.loop-arc-test.true c.loop-arc.invariant
    (record { from = c.if-nodes-arc.false; to = c.if-nodes-arc-2.false })

pub returns : goal.returns
returns c =
    let whole : All (IsArc c.args.nodes) c.args.arcs.now =
    rw (take_all c.loop-arc.arc-index c.args.arcs.now c.loop-arc-test.false) at c.loop-arc.invariant in
    ((λ _. whole), (λ _. refl))
