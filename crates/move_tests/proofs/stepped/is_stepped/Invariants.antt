use Rattle.cost_store.specs.Posed.{AreOfOneSize}
use Rattle.moves.specs.UnderWay.{IsSomeRun}
use Rattle.move_tests.proofs.stepped.is_stepped.Given as goal

abbrev pub invariant-loop-place : goal.invariant-loop-place
invariant-loop-place g l = record {
  run : IsSomeRun g.F.Fn g.V.Fn l.problem l.labelling l.run;
  sizes : AreOfOneSize l.fn.labelling l.labelling;
}
