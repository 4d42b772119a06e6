use Rattle.message_bound.specs.PairTables.{ServesPairs}
use Rattle.dual_bound.proofs.ascent.sweep.Given as goal

abbrev pub invariant-loop-step : goal.invariant-loop-step
invariant-loop-step g l = ServesPairs g.F.Fn g.V.Fn l.problem l.costs
