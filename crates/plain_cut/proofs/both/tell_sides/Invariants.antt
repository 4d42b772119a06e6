use Rattle.std.proofs.Common.{◌≡◌, ◌<◌, ◌≤◌, ℕ, length, slice_index}
use Rattle.plain_cut.proofs.both.tell_sides.Given as goal

abbrev pub invariant-nodes : goal.invariant-nodes
invariant-nodes l = record {
  len : length l.labels ≡ length l.initial.labels;
  below : (v : ℕ) → v < l.v → slice_index l.initial.labels v < l.top → slice_index l.labels v ≡ 0;
  at : (v : ℕ) → v < l.v → l.top ≤ slice_index l.initial.labels v → slice_index l.labels v ≡ 1;
  left : (v : ℕ) → l.v ≤ v → slice_index l.labels v ≡ slice_index l.initial.labels v;
}
