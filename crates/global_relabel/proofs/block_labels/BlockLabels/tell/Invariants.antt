use Rattle.std.proofs.Common.{◌≡◌, ℕ, ◌+◌, ◌<◌, ◌≤◌, length, slice_index}
use Rattle.global_relabel.proofs.block_labels.BlockLabels.tell.Given as goal

abbrev pub invariant-nodes : goal.invariant-nodes
invariant-nodes l =
    (length l.labels ≡ length l.initial.labels)
    × ((p : ℕ) → p < l.place → slice_index l.labels (l.first + p) ≡ slice_index l.told p)
    × ((v : ℕ) → v < l.first → slice_index l.labels v ≡ slice_index l.initial.labels v)
    × ((v : ℕ) → l.first + l.place ≤ v → slice_index l.labels v ≡ slice_index l.initial.labels v)
