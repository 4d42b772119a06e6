use Rattle.std.proofs.Common.{◌<◌, length}
use Rattle.dual_bound.proofs.ascent.least_label.Given as goal

abbrev pub invariant-loop-label : goal.invariant-loop-label
invariant-loop-label l = l.best < length l.sums
