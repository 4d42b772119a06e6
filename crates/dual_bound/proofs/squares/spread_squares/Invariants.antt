use Rattle.std.proofs.Common.{◌≤◌}
use Rattle.dual_bound.proofs.squares.spread_squares.Given as goal

abbrev pub invariant-loop-label : goal.invariant-loop-label
invariant-loop-label l = l.place ≤ l.top
