use Rattle.std.proofs.Common.{◌≡◌, ℕ, ◌-◌, ◌<◌, slice_index}
use Rattle.block_events.specs.States.{room_of}
use Rattle.cut_in_blocks.proofs.flow.write_sink_flow.Given as goal

abbrev pub invariant-nodes : goal.invariant-nodes
invariant-nodes l = (v : ℕ) → v < l.v → slice_index l.sink_flow v ≡ slice_index l.state.net.sinks v - room_of l.state v
