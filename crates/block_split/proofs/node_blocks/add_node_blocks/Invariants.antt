use Rattle.std.proofs.Common.{◌≡◌}
use Rattle.std.specs.Vec.{vec_len, vec_capacity}
use Rattle.flow_network.specs.Cut.{nodes}
use Rattle.block_events.specs.States.{block_of}
use Rattle.block_net.specs.Whole.{table}
use Rattle.block_split.proofs.node_blocks.add_node_blocks.Given as goal

abbrev pub invariant-loop-node : goal.invariant-loop-node
invariant-loop-node l = record {
  made : l.node_blocks.items ≡ table l._node (block_of l.net l.blocks);
  len : vec_len l.node_blocks ≡ l._node;
  room : vec_capacity l.node_blocks ≡ nodes l.net;
}
