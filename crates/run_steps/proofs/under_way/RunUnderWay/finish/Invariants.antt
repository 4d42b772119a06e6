use Rattle.std.proofs.Common.{ℕ, List}
use Rattle.cost_store.specs.Posed.{AreOfOneSize}
use Rattle.label_energies.specs.declared.cycles.Moves.{Moves}
use Rattle.run_steps.specs.UnderWay.{IsRunFrom, left_of}
use Rattle.run_steps.proofs.under_way.RunUnderWay.finish.Given as goal

abbrev pub invariant-loop-self : goal.invariant-loop-self
invariant-loop-self g l = record {
  run : (kind : Moves) (cycles : ℕ) (start : List ℕ) → IsRunFrom g.F.Fn g.V.Fn l.problem kind cycles start l.fn.labelling l.fn.self
      → IsRunFrom g.F.Fn g.V.Fn l.problem kind cycles start l.labelling l.self;
  sizes : AreOfOneSize l.fn.labelling l.labelling;
}

abbrev pub decreases-loop-self : goal.decreases-loop-self
decreases-loop-self g l = left_of l.self
