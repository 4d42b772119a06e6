use Rattle.std.proofs.Common.{◌≡◌, ◌-◌, min, ◌∙◌, slice_set, sym, ap, subst, get_or-set_other}
use Rattle.std.proofs.lemmas.List.{length-set}
use Rattle.block_net.specs.declared.lanes.InnerLane.{InnerLane}
use Rattle.block_net.specs.Views.{CellsView, count, excess_in, label_in, lane_in, cells_after_push}
use Rattle.block_discharge.specs.Standing.{BucketedView, IsAside}
use Rattle.block_discharge.proofs.Placing.{two_stand, stays_aside, still_aside}
use Rattle.block_discharge.proofs.bucketed.Bucketed.push.Goals as goal

pub invariant_of-self : goal.invariant_of-self
invariant_of-self c =
    let b = c.self.inside.cells in
    let v = c.args.v in
    let w = (lane_in b c.args.j).far in
    let a = min (excess_in b v) (lane_in b c.args.j).residual in
    let less = slice_set b.excess v (excess_in b v - a) in
    let far : c.lane-far.result.far ≡ w = ap (λ (x : InnerLane). x.far) c.lane-far.ensures.value in
    let is : c.push.new.self ≡ cells_after_push b v c.args.j a = c.push.ensures in
    two_stand b c.push.new.self _ _ _ v c.lane-far.result.far c.self.invariant (ap count is ∙ (length-set less w _ ∙ length-set b.excess v _)) (ap (λ (x : CellsView). x.top) is)
    (λ u. ap (λ (x : CellsView). label_in x u) is)
    (λ u off off'. ap (λ (x : CellsView). excess_in x u) is ∙ (get_or-set_other less w u _ 0 (λ e. off' (e ∙ sym far)) ∙ get_or-set_other b.excess v u _ 0 off))
    c.renew.ensures c.renew-2.ensures

pub returns-clause-aside : goal.returns-clause-aside
returns-clause-aside c = λ u out.
    subst (λ (x : BucketedView). IsAside x u) c.self.view_is (still_aside _ _ _ _ c.renew.ensures u (still_aside _ _ _ _ c.renew-2.ensures u out))

pub returns-clause-stays : goal.returns-clause-stays
returns-clause-stays c = λ u out on.
    let was = subst (λ (x : BucketedView). IsAside x u) (sym c.self.view_is) out in
    stays_aside _ _ _ _ c.renew-2.ensures u (stays_aside _ _ _ _ c.renew.ensures u was on) on
