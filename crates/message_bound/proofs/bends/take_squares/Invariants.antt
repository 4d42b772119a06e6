use Rattle.std.proofs.Common.{ℕ, ◌≡◌, ◌+◌, ◌*◌, ◌^◌, ◌<◌, ◌≤◌, length, slice_index}
use Rattle.std.specs.Prelude.{min}
use Rattle.message_bound.specs.Costs.{square_apart, Rises}
use Rattle.message_bound.proofs.bends.take_squares.Given as goal

abbrev pub invariant-loop-label : goal.invariant-loop-label
invariant-loop-label l = record {
  inside : l.label < length l.added → l.place < length l.added;
  rise : (k : ℕ) → k + 1 ≡ l.place → Rises l.added l.step l.label k;
  paid : (a b : ℕ) → a < l.label → b < length l.added
      → slice_index l.added b ≤ slice_index l.taken a + min (l.step * square_apart a b) l.most;
  small : (k : ℕ) → k < l.label → slice_index l.taken k < 2 ^ 32;
}
