use Rattle.std.proofs.Common.{subst, sym}
use Rattle.message_bound.specs.PairTables.{PairTable, ServesPairs}
use Rattle.dual_bound.proofs.ascent.messages_after.Goals as goal
use Rattle.dual_bound.proofs.ascent.messages_after.Goals.{else-loop-pass-test, then-loop-pass-test+then-forward+then-gains_little}

pub read_labels-requires-clause-serves : goal.read_labels-requires-clause-serves
read_labels-requires-clause-serves g c = λ κs live.
    let P : PairTable → Type 0 = λ t. ServesPairs g.F.Fn g.V.Fn c.args.problem.now t in
    elim c.loop-pass-test.branch [
      | else-loop-pass-test w ↦ subst P (sym w.costs-is) c.loop-pass.invariant.serves
      | then-loop-pass-test+then-forward+then-gains_little w ↦ subst P (sym w.costs-is) w.sweep-bound.ensures
    ]
