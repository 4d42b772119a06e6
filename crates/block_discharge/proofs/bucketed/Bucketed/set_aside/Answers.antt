use Rattle.std.proofs.Common.{◌<◌, cond, nat_lt, sum_by, ℕ, sym, subst, arith}
use Rattle.block_discharge.specs.Active.{IsActiveInBlock}
use Rattle.block_discharge.specs.Standing.{BucketedView, IsAside, waiting_count}
use Rattle.block_discharge.proofs.Placing.{row_waits, aside_stands, fewer_wait}
use Rattle.block_discharge.proofs.bucketed.Bucketed.set_aside.Goals as goal

pub invariant_of-self : goal.invariant_of-self
invariant_of-self c =
    let on : IsActiveInBlock c.self.inside.cells c.args.v = subst (λ (x : BucketedView). IsActiveInBlock x.block c.args.v) (sym c.self.view_is) c.requires.active in
    aside_stands _ _ _ c.args.v c.self.invariant on c.set_aside.ensures

pub returns-clause-fewer : goal.returns-clause-fewer
returns-clause-fewer c =
    let s = c.self.inside.buckets in
    let on : IsActiveInBlock c.self.inside.cells c.args.v = subst (λ (x : BucketedView). IsActiveInBlock x.block c.args.v) (sym c.self.view_is) c.requires.active in
    let waits = row_waits c.self.inside.cells s c.args.v c.self.invariant on (λ e. c.requires.waits (subst (λ (x : BucketedView). IsAside x c.args.v) c.self.view_is e)) in
    let fewer = fewer_wait s c.set_aside.new.self c.args.v (omega (arith, on.node, c.self.invariant.fit.nodes_same)) waits c.set_aside.ensures in
    subst (λ (x : BucketedView). sum_by (λ (row : ℕ). cond (nat_lt row c.set_aside.new.self.buckets) 1 0) c.set_aside.new.self.rows < waiting_count x) c.self.view_is fewer
