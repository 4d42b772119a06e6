use Rattle.std.proofs.Common.{◌+◌, ◌-◌, ◌<◌, ◌≤◌, length}
use Rattle.flow_network.specs.Preflow.{flow_by, sink_flows}
use Rattle.sink_distances.specs.Rows.{carried_flow}
use Rattle.sink_distances.specs.Search.{found_of, IsLevelFrom}
use Rattle.sink_distances.proofs.Nearing.{IsSearchedBeside}
use Rattle.sink_distances.proofs.near.search_near.Given as goal

abbrev pub invariant-levels : goal.invariant-levels
invariant-levels l = record {
  search : IsSearchedBeside l.net (flow_by (carried_flow l.rows) (sink_flows l.net l.rooms)) l.labels l.next (found_of l.found l.order l.tally.count);
  level : IsLevelFrom l.level l.next (found_of l.found l.order l.tally.count);
  high : 0 < l.level;
  low : l.level ≤ l.next + 1;
}

abbrev pub decreases-levels : goal.decreases-levels
decreases-levels l = length l.initial.found - l.next
