use Rattle.std.proofs.Common.{◌≡◌, subst, arith}
use Rattle.net_in_blocks.proofs.ByBlock.{IsRelabelledBelow, relabelled_none, relabelled_more, relabelled_done}
use Rattle.net_in_blocks.proofs.blocks.Blocks.set_labels.Goals as goal

pub each-init : goal.each-init
each-init c = relabelled_none c.args.self.now c.args.labels.now

pub each-preserved : goal.each-preserved
each-preserved c = relabelled_more _ _ _ _ c.each.block c.each.invariant c.relabel_block.ensures

pub returns : goal.returns
returns c =
    let a = c.args.self.now in
    let labels = c.args.labels.now in
    let all : c.each.block ≡ a.blocks = omega (arith, c.count-block-end.ensures.value, c.each-test.false, c.each.auto.block-end) in
    relabelled_done a _ labels (omega (arith, c.count-block-end.ensures.value, c.count-block-end.ensures.some)) c.requires.len (subst (IsRelabelledBelow a c.each.self labels) all c.each.invariant)
