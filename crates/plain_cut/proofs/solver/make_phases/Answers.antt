use Rattle.std.proofs.Common.{arith}
use Rattle.plain_cut.proofs.Queue.{among_first}
use Rattle.plain_cut.proofs.solver.make_phases.Goals as goal

pub is_maximum-requires-clause-listed : goal.is_maximum-requires-clause-listed
is_maximum-requires-clause-listed c = λ v l some low.
    among_first c.phases.order c.phases.extent.count v (omega (arith, c.phases.invariant.count, c.requires.order, c.phases.auto.order)) (c.phases.invariant.listed v l some low)

pub begin_phase-requires-clause-listed : goal.begin_phase-requires-clause-listed
begin_phase-requires-clause-listed c = λ v l some low.
    among_first c.phases.order c.phases.extent.count v (omega (arith, c.phases.invariant.count, c.requires.order, c.phases.auto.order)) (c.phases.invariant.listed v l some low)
