use Rattle.std.proofs.Common.{◌≡◌, take, length}
use Rattle.std.specs.Vec.{vec_len, vec_capacity}
use Rattle.block_split.specs.Split.{lanes_made}
use Rattle.block_split.proofs.rows.lanes_of.Given as goal

abbrev pub invariant-loop-index : goal.invariant-loop-index
invariant-loop-index l = record {
  made : l.lanes.items ≡ lanes_made l.net l.slots l.first (take l.index-index l.indices);
  len : vec_len l.lanes ≡ l.index-index;
  room : vec_capacity l.lanes ≡ length l.indices;
}
