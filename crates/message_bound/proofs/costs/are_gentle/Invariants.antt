use Rattle.std.proofs.Common.{ℕ, ◌≡◌, ◌+◌, ◌^◌, ◌<◌, ◌≤◌, slice_index}
use Rattle.message_bound.proofs.costs.are_gentle.Given as goal

abbrev pub invariant-loop-index : goal.invariant-loop-index
invariant-loop-index l = record {
  last : (k : ℕ) → k + 1 ≡ l.index → slice_index l.numbers k ≡ l.last;
  small : l.last < 2 ^ 32;
  near : (k : ℕ) → k + 1 < l.index
      → (slice_index l.numbers (k + 1) ≤ slice_index l.numbers k + l.step)
      × (slice_index l.numbers k ≤ slice_index l.numbers (k + 1) + l.step);
  between : (k : ℕ) → k < l.index → (l.least ≤ slice_index l.numbers k) × (slice_index l.numbers k ≤ l.greatest);
}
