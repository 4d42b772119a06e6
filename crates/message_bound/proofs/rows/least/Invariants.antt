use Rattle.std.proofs.Common.{ℕ, ◌^◌, ◌<◌, ◌≤◌, length, slice_index}
use Rattle.message_bound.proofs.rows.least.Given as goal

abbrev pub invariant-loop-label : goal.invariant-loop-label
invariant-loop-label l = record {
  least : (k : ℕ) → k < l.label → l.least ≤ slice_index l.row k;
  most : (c : ℕ) → c < 2 ^ 64 → ((k : ℕ) → k < length l.row → c ≤ slice_index l.row k) → c ≤ l.least;
}
