use Rattle.std.proofs.Common.{◌<◌, ℕ, All, Contains, length, slice_index}
use Rattle.plain_cut.proofs.work.queue_again.Given as goal

abbrev pub invariant-nodes : goal.invariant-nodes
invariant-nodes l = record {
  nodes : All (λ v. v < length l.excess) l.queue.items;
  all : (i : ℕ) → i < l.place → 0 < slice_index l.excess (slice_index l.found i) → slice_index l.labels (slice_index l.found i) < l.limit
      → Contains l.queue.items (slice_index l.found i);
  aside : All (λ v. slice_index l.labels v < l.limit) l.queue.items;
}
