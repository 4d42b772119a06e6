use Rattle.std.specs.Prelude.{◌≡◌, ℕ, ◌+◌, ◌<◌, ◌≤◌, length, slice_index, slice_index_or}
use Rattle.block_split.specs.Split.{whole_of}
use Rattle.sink_distances.specs.Search.{found_of}
use Rattle.global_relabel.specs.declared.block_labels.Offer.{Offer}
use Rattle.global_relabel.specs.Lowering.{ComeDown, IsAllowedBy, IsQueue, IsTightUpTo}
use Rattle.global_relabel.proofs.block_labels.spread.Given as goal

abbrev pub invariant-search : goal.invariant-search
invariant-search l = record {
  queue : IsQueue (found_of l.labels l.queue l.end);
  down : ComeDown (whole_of l.split.net.now l.split.parts.now) l.block (IsAllowedBy l.offers) l.fn.labels l.labels;
  next : l.next ≤ l.end;
  taken : l.taken ≤ length l.offers;
  turns : l.next + l.taken ≡ l.turn;
  near : l.next < l.end → (i : ℕ) → i < l.end
      → slice_index l.labels (slice_index l.queue i) ≤ slice_index l.labels (slice_index l.queue l.next) + 1;
  waiting : (k : ℕ) (d : Offer) → l.taken ≤ k → k < length l.offers → (i : ℕ) → i < l.end
      → slice_index l.labels (slice_index l.queue i) ≤ (slice_index_or l.offers k d).label;
  tight : IsTightUpTo (whole_of l.split.net.now l.split.parts.now) l.block 0 (found_of l.fn.labels l.fn.queue l.fn.end)
      → IsTightUpTo (whole_of l.split.net.now l.split.parts.now) l.block l.next (found_of l.labels l.queue l.end);
  met : (k : ℕ) (d : Offer) → k < l.taken → slice_index l.labels (slice_index_or l.offers k d).place ≤ (slice_index_or l.offers k d).label;
}
