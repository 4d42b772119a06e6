use Rattle.std.proofs.Common.{◌-◌, length}
use Rattle.flow_network.specs.Preflow.{flow_by, sink_flows}
use Rattle.sink_distances.specs.Search.{found_of}
use Rattle.sink_distances.proofs.Searching.{IsSearched}
use Rattle.sink_distances.proofs.search.write_distances.Given as goal

abbrev pub invariant-search : goal.invariant-search
invariant-search l = IsSearched l.net (flow_by l.arc_flow (sink_flows l.net l.rooms)) l.next (found_of l.labels l.order l.count)

abbrev pub decreases-search : goal.decreases-search
decreases-search l = length l.initial.labels - l.next
