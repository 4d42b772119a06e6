use Rattle.std.proofs.Common.{◌≡◌, take, length}
use Rattle.std.specs.Vec.{vec_len, vec_capacity}
use Rattle.block_split.specs.Split.{borders_made}
use Rattle.block_split.proofs.rows.borders_of.Given as goal

abbrev pub invariant-loop-index : goal.invariant-loop-index
invariant-loop-index l = record {
  made : l.borders.items ≡ borders_made l.split.net.now l.split.blocks l.slots l.first (take l.index-index l.indices);
  len : vec_len l.borders ≡ l.index-index;
  room : vec_capacity l.borders ≡ length l.indices;
}
