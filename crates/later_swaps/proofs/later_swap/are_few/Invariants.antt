use Rattle.std.proofs.Common.{◌-◌, ◌≤◌, length}
use Rattle.later_swaps.proofs.later_swap.are_few.Given as goal

abbrev pub invariant-loop-from : goal.invariant-loop-from
invariant-loop-from l = record {
  within : l.from ≤ length l.stamps;
  few : l.changed ≤ l.from;
}

abbrev pub decreases-loop-from : goal.decreases-loop-from
decreases-loop-from l = length l.stamps - l.from
