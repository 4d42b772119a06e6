use Rattle.std.proofs.Common.{◌∙◌}
use Rattle.block_net.specs.Whole.{Whole}
use Rattle.block_split.specs.Split.{whole_of}
use Rattle.net_in_blocks.proofs.Steps.{at_read, room_read}
use Rattle.net_in_blocks.proofs.blocks.Blocks.room.Goals as goal

pub returns : goal.returns
returns c =
    let i = c.self.inside in
    let w : Whole = whole_of i.net i.parts in
    let b = c.spot-block.result.0 in
    let p = c.spot-block.result.1 in
    let B = c.index.result.now in
    let at = at_read w c.args.self.now b B c.self.invariant c.self.view_is c.spot-block.ensures.block c.index.ensures in
    c.room.ensures ∙ room_read w _ b B c.args.v p at c.spot-block.ensures
