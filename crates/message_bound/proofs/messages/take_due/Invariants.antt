use Rattle.std.proofs.Common.{ℕ, ◌+◌, ◌*◌, ◌^◌, ◌<◌, ◌≤◌, slice_index}
use Rattle.message_bound.proofs.messages.take_due.Given as goal

abbrev pub invariant-loop-first : goal.invariant-loop-first
invariant-loop-first l = record {
  paid : (a b : ℕ) → a < l.first → b < l.labels
      → slice_index l.added b + slice_index l.given a
      ≤ slice_index l.taken a + l.weight * slice_index l.costs (a * l.labels + b);
  small : (k : ℕ) → k < l.first → (slice_index l.taken k < 2 ^ 32) × (slice_index l.given k < 2 ^ 32);
}
