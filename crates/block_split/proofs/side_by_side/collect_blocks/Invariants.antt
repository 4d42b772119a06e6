use Rattle.std.proofs.Common.{◌≡◌, length}
use Rattle.std.specs.Vec.{vec_len, vec_capacity}
use Rattle.block_net.specs.Whole.{table}
use Rattle.block_split.specs.Split.{block_made}
use Rattle.block_split.specs.Slots.{AreMadeOf, split_rows}
use Rattle.block_split.proofs.side_by_side.collect_blocks.Given as goal

abbrev pub invariant-loop-block : goal.invariant-loop-block
invariant-loop-block l = record {
  count : length l.made ≡ l.sorted.split.blocks;
  right : AreMadeOf l.sorted.split l.made;
  list : l.list.items ≡ table l.block (block_made l.sorted.split.net.now l.sorted.split.blocks (split_rows l.sorted.split));
  len : vec_len l.list ≡ l.block;
  room : vec_capacity l.list ≡ l.sorted.split.blocks;
}
