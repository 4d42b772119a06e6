use Rattle.std.proofs.Common.{◌≡◌, cond, eqb, sum_by}
use Rattle.block_discharge.specs.Standing.{IsStanding}
use Rattle.block_discharge.proofs.bucketed.Bucketed.restore_aside.Given as goal

abbrev pub decreases-aside : goal.decreases-aside
decreases-aside l = sum_by (λ row. cond (eqb row l.self-inside.buckets.buckets) 1 0) l.self-inside.buckets.rows

abbrev pub invariant-aside : goal.invariant-aside
invariant-aside l = record {
  same : l.self-inside.cells ≡ l.fn.self.block;
  stands : IsStanding l.self-inside.cells l.self-inside.buckets;
}
