use Rattle.std.proofs.lemmas.Grind.{common_steps}
use Rattle.std.proofs.Common.{true, false, sym, ◌∙◌, ap, arith}
use Rattle.block_net.specs.Whole.{Whole, shown_lane, shown_border}
use Rattle.block_split.specs.Split.{whole_of}
use Rattle.net_in_blocks.proofs.Steps.{at_read, inner_read, border_read, row_as}
use Rattle.net_in_blocks.proofs.blocks.Blocks.lane.Goals as goal

pub returns-then-not-is_border : goal.returns-then-not-is_border
returns-then-not-is_border c =
    let i = c.self.inside in
    let w : Whole = whole_of i.net i.parts in
    let b = c.row-block.result.0 in
    let p = c.row-block.result.1 in
    let B = c.index-cells.result.now in
    let at = at_read w c.args.self.now b B c.self.invariant c.self.view_is c.row-block.ensures.block c.index-cells.ensures in
    let row = row_as w _ b B c.args.direction false p at c.row-block.ensures (sym c.is_border.ensures ∙ c.if-not-is_border.true) in
    ap shown_lane c.lane.ensures.value ∙ inner_read w _ b B c.args.direction p at row

pub returns : goal.returns
returns c =
    let i = c.self.inside in
    let w : Whole = whole_of i.net i.parts in
    let b = c.row-block.result.0 in
    let p = c.row-block.result.1 in
    let B = c.index-cells.result.now in
    let at = at_read w c.args.self.now b B c.self.invariant c.self.view_is c.row-block.ensures.block c.index-cells.ensures in
    let row = row_as w _ b B c.args.direction true p at c.row-block.ensures (sym c.is_border.ensures ∙ c.if-not-is_border.false) in
    ap shown_border c.border-border.ensures.value ∙ border_read w _ b B c.args.direction p at row

pub border-border-requires : goal.border-border-requires
border-border-requires c = grind (arith, common_steps)

pub lane-requires : goal.lane-requires
lane-requires c = grind (arith, common_steps)
