use Rattle.std.proofs.Common.{◌+◌, ◌≤◌}
use Rattle.later_swaps.proofs.later_swap.count_changed.Given as goal

abbrev pub invariant-loop-site : goal.invariant-loop-site
invariant-loop-site l = l.from + l.changed ≤ l.site
