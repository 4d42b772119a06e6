use Rattle.std.proofs.Common.{true, sym, ◌∙◌, ap, arith}
use Rattle.block_events.specs.declared.lane.Lane.{Lane}
use Rattle.block_net.specs.Whole.{Whole}
use Rattle.block_split.specs.Split.{whole_of}
use Rattle.net_in_blocks.proofs.Steps.{at_read, label_read, border_read, row_as, spot_as}
use Rattle.net_in_blocks.proofs.blocks.Blocks.may_send.Goals as goal

pub returns : goal.returns
returns c =
    let i = c.self.inside in
    let w : Whole = whole_of i.net i.parts in
    let b = c.row-block.result.0 in
    let j = c.row-block.result.1 in
    let B = c.index.result.now in
    let at = at_read w c.args.self.now b B c.self.invariant c.self.view_is c.row-block.ensures.block c.index.ensures in
    let x = c.args.direction in
    let row = row_as w _ b B x true j at c.row-block.ensures c.requires.border in
    let p = c.spot-place.result.1 in
    let spot = spot_as w _ b B x true j c.near_of.result c.spot-place.result.0 p at row c.near_of.ensures.value c.spot-place.ensures in
    let lane = border_read w _ b B x j at row in
    let residual = ap (λ (q : Lane). q.residual) lane in
    let known = ap (λ (q : Lane). q.known) lane in
    let flight = ap (λ (q : Lane). q.flight) lane in
    let here = label_read w _ b B _ p at spot in (
      λ yes. let may = c.may_send.ensures.0 yes in (omega (arith, may.residual, residual), omega (arith, may.level, here, known), sym flight ∙ may.idle),
      λ may. c.may_send.ensures.1 (record { residual = omega (arith, may.0, residual); level = omega (arith, may.1, here, known); idle = flight ∙ may.2 }),
    )
