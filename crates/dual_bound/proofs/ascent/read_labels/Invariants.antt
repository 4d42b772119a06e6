use Rattle.cost_store.specs.Posed.{FitsProblem}
use Rattle.message_bound.specs.PairTables.{ServesPairs}
use Rattle.dual_bound.proofs.ascent.read_labels.Given as goal

abbrev pub invariant-loop-site : goal.invariant-loop-site
invariant-loop-site g l = record {
  fits : FitsProblem l.problem l.labelling;
  serves : ServesPairs g.F.Fn g.V.Fn l.problem l.costs;
}
