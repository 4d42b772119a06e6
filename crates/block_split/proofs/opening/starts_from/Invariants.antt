use Rattle.std.proofs.Common.{◌≡◌, ◌+◌, ◌-◌, slice_index}
use Rattle.std.specs.Vec.{vec_len, vec_capacity}
use Rattle.block_net.specs.Whole.{table}
use Rattle.block_split.proofs.opening.starts_from.Given as goal

abbrev pub invariant-loop-node : goal.invariant-loop-node
invariant-loop-node l = record {
  made : l.list.items ≡ table l.node (λ i. slice_index l.starts (l.first + i) - slice_index l.starts l.first);
  len : vec_len l.list ≡ l.node;
  room : vec_capacity l.list ≡ l.count;
}
