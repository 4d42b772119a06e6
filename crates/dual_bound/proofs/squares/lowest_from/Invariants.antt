use Rattle.std.proofs.Common.{◌≤◌, ◌-◌}
use Rattle.dual_bound.proofs.squares.lowest_from.Given as goal

abbrev pub invariant-loop-place : goal.invariant-loop-place
invariant-loop-place l = l.place ≤ l.top

abbrev pub decreases-loop-place : goal.decreases-loop-place
decreases-loop-place l = l.top - l.place
