use Rattle.std.proofs.Common.{◌≡◌}
use Rattle.std.specs.Vec.{vec_len, vec_capacity}
use Rattle.flow_network.specs.Cut.{nodes}
use Rattle.block_events.specs.States.{block_of}
use Rattle.block_net.specs.Whole.{table}
use Rattle.block_split.specs.Split.{first_node}
use Rattle.block_split.proofs.node_blocks.node_blocks_of.Given as goal

abbrev pub invariant-loop-block : goal.invariant-loop-block
invariant-loop-block l = record {
  made : l.node_blocks.items ≡ table (first_node (nodes l.net) l.blocks l.block) (block_of l.net l.blocks);
  len : vec_len l.node_blocks ≡ first_node (nodes l.net) l.blocks l.block;
  room : vec_capacity l.node_blocks ≡ nodes l.net;
}
