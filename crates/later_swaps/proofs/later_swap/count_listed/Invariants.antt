use Rattle.std.proofs.Common.{◌≤◌}
use Rattle.later_swaps.proofs.later_swap.count_listed.Given as goal

abbrev pub invariant-loop-index : goal.invariant-loop-index
invariant-loop-index l = l.count ≤ l.index
