use Rattle.std.proofs.Common.{◌≡◌, ◌<◌, ◌≤◌, ℕ, length, max, min, slice_index}
use Rattle.sink_distances.proofs.near.raise_to.Given as goal

abbrev pub invariant-nodes : goal.invariant-nodes
invariant-nodes l = record {
  len : length l.labels ≡ length l.found;
  done : (v : ℕ) → v < l.v → slice_index l.labels v ≡ max (slice_index l.initial.labels v) (min (slice_index l.found v) l.limit);
  left : (v : ℕ) → l.v ≤ v → slice_index l.labels v ≡ slice_index l.initial.labels v;
}
