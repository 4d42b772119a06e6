use Rattle.std.proofs.Common.{ℕ, ◌≡◌, ◌+◌, ◌-◌, ◌<◌, length}
use Rattle.message_bound.specs.Costs.{Rises}
use Rattle.message_bound.proofs.bends.highest_from.Given as goal

abbrev pub invariant-loop-place : goal.invariant-loop-place
invariant-loop-place l = record {
  inside : l.place < length l.numbers;
  rise : (k : ℕ) → k + 1 ≡ l.place → Rises l.numbers l.step l.label k;
}

abbrev pub decreases-loop-place : goal.decreases-loop-place
decreases-loop-place l = length l.numbers - l.place
