use Rattle.std.proofs.Common.{◌≡◌, ℕ, ◌<◌, ◌≤◌, cond, length}
use Rattle.std.specs.Prelude.{slice_index, false}
use Rattle.move_energy.specs.Choices.{bit_of, choice_at}
use Rattle.near_changes.proofs.changes.stamp_values.Given as goal

abbrev pub invariant-loop-site : goal.invariant-loop-site
invariant-loop-site l = record {
  done : (p : ℕ) → p < l.site → p < length l.stamps
      → slice_index l.stamps p ≡ cond (bit_of (choice_at l.choices p) false) l.number (slice_index l.fn.stamps p);
  left : (p : ℕ) → l.site ≤ p → slice_index l.stamps p ≡ slice_index l.fn.stamps p;
}
