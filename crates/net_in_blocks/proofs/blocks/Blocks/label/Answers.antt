use Rattle.std.proofs.Common.{◌∙◌, arith}
use Rattle.block_net.specs.Whole.{Whole}
use Rattle.block_split.specs.Split.{whole_of}
use Rattle.net_in_blocks.proofs.Steps.{at_read, label_read, top_read}
use Rattle.net_in_blocks.proofs.Opened.{laid_long}
use Rattle.net_in_blocks.proofs.blocks.Blocks.label.Goals as goal

pub returns-clause-value : goal.returns-clause-value
returns-clause-value c =
    let i = c.self.inside in
    let w : Whole = whole_of i.net i.parts in
    let b = c.spot-block.result.0 in
    let p = c.spot-block.result.1 in
    let B = c.index.result.now in
    let at = at_read w c.args.self.now b B c.self.invariant c.self.view_is c.spot-block.ensures.block c.index.ensures in
    c.label.ensures.value ∙ label_read w _ b B c.args.v p at c.spot-block.ensures

pub returns-clause-limit : goal.returns-clause-limit
returns-clause-limit c =
    let i = c.self.inside in
    let w : Whole = whole_of i.net i.parts in
    let b = c.spot-block.result.0 in
    let p = c.spot-block.result.1 in
    let B = c.index.result.now in
    let at = at_read w c.args.self.now b B c.self.invariant c.self.view_is c.spot-block.ensures.block c.index.ensures in
    omega (arith, c.label.ensures.limit, top_read w _ b B at)

pub returns-clause-long : goal.returns-clause-long
returns-clause-long c =
    laid_long _ _ c.self.invariant c.self.view_is
