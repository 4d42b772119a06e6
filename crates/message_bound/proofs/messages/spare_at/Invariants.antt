use Rattle.std.proofs.Common.{ℕ, ◌-◌, ◌*◌, ◌^◌, ◌<◌, ◌≤◌, slice_index}
use Rattle.message_bound.proofs.messages.spare_at.Given as goal

abbrev pub invariant-loop-second : goal.invariant-loop-second
invariant-loop-second l = record {
  small : l.spare < 2 ^ 32;
  each : (b : ℕ) → b < l.second → l.spare ≤ l.weight * slice_index l.costs b - slice_index l.added b;
}
