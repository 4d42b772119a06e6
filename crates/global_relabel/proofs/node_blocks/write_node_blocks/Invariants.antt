use Rattle.std.proofs.Common.{◌≡◌, ℕ, ◌<◌, length, slice_index}
use Rattle.flow_network.specs.Cut.{nodes}
use Rattle.block_events.specs.States.{block_of}
use Rattle.global_relabel.proofs.node_blocks.write_node_blocks.Given as goal

abbrev pub invariant-each : goal.invariant-each
invariant-each l =
    (length l.node_blocks ≡ nodes l.state.net)
    × ((v : ℕ) → v < nodes l.state.net → block_of l.state.net l.state.blocks v < l.b → slice_index l.node_blocks v ≡ block_of l.state.net l.state.blocks v)
