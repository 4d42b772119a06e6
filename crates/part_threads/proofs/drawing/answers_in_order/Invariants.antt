use Rattle.std.proofs.Common.{◌≡◌, ◌<◌, ◌≤◌, ℕ, Some, length, slice_index_or}
use Rattle.part_threads.proofs.drawing.answers_in_order.Given as goal

abbrev pub invariant-loop-part : goal.invariant-loop-part
invariant-loop-part g l = record {
  long : length l.places.items ≡ length l.fn.places.items;
  count : length l.answers.items ≡ l.part;
  right : (i : ℕ) (d : _) (answer : _) → l.part ≤ i → i < length l.places.items → slice_index_or l.places.items i d ≡ Some answer
      → (goal.Fn-dyn g).post l.work.now (i, tt) answer;
  each : (i : ℕ) (d : _) → i < l.part → (goal.Fn-dyn g).post l.work.now (i, tt) (slice_index_or l.answers.items i d);
}
