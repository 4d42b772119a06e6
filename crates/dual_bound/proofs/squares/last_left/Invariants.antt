use Rattle.std.proofs.Common.{◌≤◌}
use Rattle.dual_bound.proofs.squares.last_left.Given as goal

abbrev pub invariant-loop-left : goal.invariant-loop-left
invariant-loop-left l = l.left ≤ l.top

abbrev pub decreases-loop-left : goal.decreases-loop-left
decreases-loop-left l = l.left
