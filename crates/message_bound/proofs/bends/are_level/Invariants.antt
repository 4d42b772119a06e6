use Rattle.std.proofs.Common.{ℕ, ◌+◌, ◌*◌, ◌<◌, ◌≤◌, slice_index}
use Rattle.message_bound.proofs.bends.are_level.Given as goal

abbrev pub invariant-loop-place : goal.invariant-loop-place
invariant-loop-place l = (k : ℕ) → k + 2 < l.place
    → slice_index l.numbers k + slice_index l.numbers (k + 2) ≤ 2 * slice_index l.numbers (k + 1) + 2 * l.step
