use Rattle.message_bound.specs.PairTables.{ServesPairs}
use Rattle.dual_bound.proofs.ascent.read_label.Given as goal

abbrev pub invariant-loop-place : goal.invariant-loop-place
invariant-loop-place g l = ServesPairs g.F.Fn g.V.Fn l.problem l.costs
