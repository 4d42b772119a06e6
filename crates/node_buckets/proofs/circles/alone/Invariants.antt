use Rattle.std.proofs.Common.{ℕ, ◌≡◌, ◌<◌, slice_index, vec_len, vec_capacity}
use Rattle.node_buckets.proofs.circles.alone.Given as goal

abbrev pub invariant-loop-place : goal.invariant-loop-place
invariant-loop-place l = record {
  size : vec_len l.list ≡ l.place;
  room : vec_capacity l.list ≡ l.places;
  alone : (x : ℕ) → x < l.place → slice_index l.list.items x ≡ x;
}
