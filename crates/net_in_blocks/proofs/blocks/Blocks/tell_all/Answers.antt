use Rattle.std.proofs.Common.{◌≡◌, subst, arith, ap}
use Rattle.block_events.specs.Effects.{BlocksView}
use Rattle.net_in_blocks.proofs.ByBlock.{IsToldBelow, told_none, told_more, told_done}
use Rattle.net_in_blocks.proofs.blocks.Blocks.tell_all.Goals as goal

pub each-init : goal.each-init
each-init c = told_none c.args.self.now

pub tell_from-requires : goal.tell_from-requires
tell_from-requires c =
    omega (arith, ap (λ (q : BlocksView). q.blocks) c.each.invariant.rest, c.count-block-end.ensures.value, c.each-test.true)

pub each-preserved : goal.each-preserved
each-preserved c = told_more _ _ _ c.each.block c.each.invariant c.tell_from.ensures

pub returns : goal.returns
returns c =
    let a = c.args.self.now in
    let all : c.each.block ≡ a.blocks = omega (arith, c.count-block-end.ensures.value, c.each-test.false, c.each.auto.block-end) in
    told_done a _ (omega (arith, c.count-block-end.ensures.value, c.count-block-end.ensures.some)) (subst (IsToldBelow a c.each.self) all c.each.invariant)
