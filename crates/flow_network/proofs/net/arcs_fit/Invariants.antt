use Rattle.std.proofs.Common.{take, All}
use Rattle.flow_network.specs.Cut.{IsArc}
use Rattle.flow_network.proofs.net.arcs_fit.Given as goal

abbrev pub invariant-loop-arc : goal.invariant-loop-arc
invariant-loop-arc l = All (IsArc l.nodes) (take l.arc-index l.arcs)
