use Rattle.std.proofs.Common.{◌≡◌}
use Rattle.std.specs.Vec.{vec_len, vec_capacity}
use Rattle.flow_network.specs.Cut.{nodes}
use Rattle.block_net.specs.Whole.{table}
use Rattle.block_split.specs.Split.{first_node}
use Rattle.block_split.proofs.parts.firsts_of.Given as goal

abbrev pub invariant-loop-block : goal.invariant-loop-block
invariant-loop-block l = record {
  made : l.firsts.items ≡ table l.block (first_node (nodes l.net) l.blocks);
  len : vec_len l.firsts ≡ l.block;
  room : vec_capacity l.firsts ≡ l.blocks;
}
