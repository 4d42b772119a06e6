use Rattle.flow_network.proofs.Duality.{sink_gets-le-capacity}
use Rattle.flow_network.proofs.laws.sink_gets_at_most_each_cut.Goals as goal

pub returns : goal.returns
returns c = sink_gets-le-capacity
