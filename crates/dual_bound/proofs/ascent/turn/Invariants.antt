use Rattle.message_bound.specs.PairTables.{ServesPairs}
use Rattle.dual_bound.proofs.ascent.turn.Given as goal

abbrev pub invariant-loop-index : goal.invariant-loop-index
invariant-loop-index g l = ServesPairs g.F.Fn g.V.Fn l.problem l.costs
