use Rattle.std.proofs.Common.{◌≡◌}
use Rattle.std.specs.Vec.{vec_len, vec_capacity}
use Rattle.block_net.specs.Whole.{table}
use Rattle.block_split.specs.Split.{block_made}
use Rattle.block_split.specs.Slots.{split_rows}
use Rattle.block_split.proofs.one_by_one.blocks_of.Given as goal

abbrev pub invariant-loop-block : goal.invariant-loop-block
invariant-loop-block l = record {
  list : l.list.items ≡ table l.block (block_made l.sorted.split.net.now l.sorted.split.blocks (split_rows l.sorted.split));
  len : vec_len l.list ≡ l.block;
  room : vec_capacity l.list ≡ l.sorted.split.blocks;
}
