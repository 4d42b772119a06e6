use Rattle.graph_cuts.specs.Posed.{AreOfOneSize}
use Rattle.graph_cuts.specs.UnderWay.{IsRunFrom}
use Rattle.example_steps.proofs.make_moves.Given as goal

abbrev pub invariant-loop-made : goal.invariant-loop-made
invariant-loop-made g l = record {
  run : IsRunFrom g.F.Fn g.V.Fn l.problem l.fn.moves 10 l.fn.labelling.at l.labelling l.run;
  sizes : AreOfOneSize l.fn.labelling l.labelling;
}
