use Rattle.std.proofs.Common.{arith}
use Rattle.block_net.specs.Whole.{Whole}
use Rattle.block_split.specs.Split.{whole_of}
use Rattle.net_in_blocks.proofs.Steps.{at_read, label_read, room_read}
use Rattle.net_in_blocks.proofs.blocks.Blocks.may_give.Goals as goal

pub returns : goal.returns
returns c =
    let i = c.self.inside in
    let w : Whole = whole_of i.net i.parts in
    let b = c.spot-block.result.0 in
    let p = c.spot-block.result.1 in
    let B = c.index.result.now in
    let at = at_read w c.args.self.now b B c.self.invariant c.self.view_is c.spot-block.ensures.block c.index.ensures in
    let room = room_read w _ b B c.args.v p at c.spot-block.ensures in
    let label = label_read w _ b B c.args.v p at c.spot-block.ensures in (
      λ yes. let may = c.may_give.ensures.0 yes in (omega (arith, may.0, room), omega (arith, may.1, label)),
      λ may. c.may_give.ensures.1 (omega (arith, may.0, room), omega (arith, may.1, label)),
    )
