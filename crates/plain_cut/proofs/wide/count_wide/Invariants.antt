use Rattle.std.proofs.Common.{◌≤◌}
use Rattle.plain_cut.proofs.wide.count_wide.Given as goal

abbrev pub invariant-nodes : goal.invariant-nodes
invariant-nodes l = l.count ≤ l.behind
