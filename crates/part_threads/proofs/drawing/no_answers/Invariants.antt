use Rattle.std.proofs.Common.{◌≡◌, ◌<◌, ℕ, None, length, slice_index_or}
use Rattle.part_threads.proofs.drawing.no_answers.Given as goal

abbrev pub invariant-loop : goal.invariant-loop
invariant-loop l = record {
  count : length l.places.items ≡ l.counter;
  none : (i : ℕ) (d : _) → i < l.counter → slice_index_or l.places.items i d ≡ None;
}
