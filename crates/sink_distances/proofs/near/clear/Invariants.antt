use Rattle.std.proofs.Common.{◌≡◌, ◌≢◌, ◌<◌, ℕ, length, slice_index}
use Rattle.sink_distances.proofs.near.clear.Given as goal

abbrev pub invariant-nodes : goal.invariant-nodes
invariant-nodes l = record {
  len : length l.found ≡ length l.labels;
  zeros : (v : ℕ) → v < l.v → slice_index l.labels v ≡ 0 → slice_index l.found v ≡ 0;
  others : (v : ℕ) → v < l.v → slice_index l.labels v ≢ 0 → slice_index l.found v ≡ l.none;
}
