use Rattle.std.proofs.Common.{[]}
use Rattle.label_energies.specs.Energies.{Instance}
use Rattle.cost_store.specs.Posed.{IsMeant}
use Rattle.label_energies.specs.declared.change.Move.TheVariants.{Expand}
use Rattle.one_move.specs.Building.{IsOfProblem}
use Rattle.later_expansions.specs.Stages.{IsStageReady, AreStageZeros, AreStageFresh, HasNumbersNear}
use Rattle.later_expansions.proofs.later_expansion.look.Given as goal

abbrev pub invariant-loop-stage : goal.invariant-loop-stage
invariant-loop-stage g l = record {
  of_problem : IsOfProblem g.F.Fn g.V.Fn l.problem l.space;
  numbers : HasNumbersNear g.F.Fn g.V.Fn l.problem l.at (Expand l.alpha) [] l.space.deciding.ends l.space.deciding.numbers;
  ready : IsStageReady l.problem.pairs l.space;
  fresh : (m : Instance) → IsMeant g.F.Fn g.V.Fn l.problem m → AreStageFresh m l.alpha l.at l.changes l.space;
  zeros : (m : Instance) → IsMeant g.F.Fn g.V.Fn l.problem m → AreStageZeros m l.alpha l.at l.space;
}
