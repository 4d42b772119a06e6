use Rattle.label_energies.specs.Energies.{Instance}
use Rattle.cost_store.specs.Posed.{IsMeant}
use Rattle.message_bound.specs.Rows.{AreRowsInRange}
use Rattle.message_bound.specs.PairTables.{ServesPairs}
use Rattle.message_bound.specs.Bounds.{AreUnder}
use Rattle.message_bound.proofs.messages.pass_all.Given as goal

abbrev pub invariant-loop-index : goal.invariant-loop-index
invariant-loop-index g l = record {
  serves : ServesPairs g.F.Fn g.V.Fn l.problem l.costs;
  range : AreRowsInRange l.index l.rows;
  under : (m : Instance) → IsMeant g.F.Fn g.V.Fn l.problem m → AreUnder m 0 l.fn.rows → AreUnder m l.index l.rows;
}
