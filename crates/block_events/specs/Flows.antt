-- The flow that a state shows where no message is on the way.
use Rattle.std.specs.Prelude.{◌-◌, map, slice_index}
use Rattle.std.specs.List.{range_with_len}
use Rattle.flow_network.specs.Cut.{nodes}
use Rattle.flow_network.specs.Preflow.{Flow}
use Rattle.block_events.specs.States.{State, room_of}

-- an arc carries what can be taken back, and a node gave the sink what its room lacks
abbrev pub shown_flow : State → Flow
shown_flow s = record {
  arcs = map (λ lane. lane.residual) s.lanes.back;
  sinks = map (λ v. slice_index s.net.sinks v - room_of s v) (range_with_len 0 (nodes s.net));
}
