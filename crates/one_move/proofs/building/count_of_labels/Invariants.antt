use Rattle.std.proofs.Common.{◌≤◌}
use Rattle.one_move.proofs.building.count_of_labels.Given as goal

abbrev pub invariant-loop-site : goal.invariant-loop-site
invariant-loop-site l = l.count ≤ l.site
