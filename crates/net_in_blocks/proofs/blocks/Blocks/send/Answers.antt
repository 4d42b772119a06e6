use Rattle.std.proofs.lemmas.Grind.{common_steps}
use Rattle.std.proofs.Common.{◌≡◌, true, min, slice_index, sym, ◌∙◌, ap, subst, arith}
use Rattle.block_events.specs.declared.lane.Lane.{Lane}
use Rattle.block_events.specs.Directions.{near}
use Rattle.block_events.specs.States as core
use Rattle.block_net.specs.Views.{CellsView, excess_in, border_in}
use Rattle.block_net.specs.Whole.{Whole, put_block}
use Rattle.block_split.specs.Split.{whole_of}
use Rattle.block_events.specs.Effects.{blocks_after_send}
use Rattle.net_in_blocks.specs.Views.{blocks_in, IsLaid}
use Rattle.net_in_blocks.proofs.Steps.{at_read, border_read, row_as, spot_as, sent_amount, sent_parcel, sent_at}
use Rattle.net_in_blocks.proofs.blocks.Blocks.send.Goals as goal

pub send-requires-clause-idle : goal.send-requires-clause-idle
send-requires-clause-idle c =
    let i = c.self.inside in
    let w : Whole = whole_of i.net i.parts in
    let b = c.row-block.result.0 in
    let j = c.row-block.result.1 in
    let B = c.index_mut.result.now in
    let at = at_read w c.args.self.now b B c.self.invariant c.self.view_is c.row-block.ensures.block c.index_mut.ensures.value in
    let x = c.args.direction in
    let row = row_as w _ b B x true j at c.row-block.ensures c.requires.border.border in
    let p = c.spot-place.result.1 in
    let spot = spot_as w _ b B x true j c.near_of.result c.spot-place.result.0 p at row c.near_of.ensures.value c.spot-place.ensures in
    ap (λ (q : Lane). q.flight) (border_read w _ b B x j at row) ∙ c.requires.idle

pub send-requires-clause-node : goal.send-requires-clause-node
send-requires-clause-node c = grind (arith, common_steps)

pub send-requires-clause-place : goal.send-requires-clause-place
send-requires-clause-place c = grind (arith, common_steps)

pub invariant_of-self : goal.invariant_of-self
invariant_of-self c =
    let i = c.self.inside in
    let w : Whole = whole_of i.net i.parts in
    let b = c.row-block.result.0 in
    let j = c.row-block.result.1 in
    let B = c.index_mut.result.now in
    let at = at_read w c.args.self.now b B c.self.invariant c.self.view_is c.row-block.ensures.block c.index_mut.ensures.value in
    let x = c.args.direction in
    let row = row_as w _ b B x true j at c.row-block.ensures c.requires.border.border in
    let p = c.spot-place.result.1 in
    let spot = spot_as w _ b B x true j c.near_of.result c.spot-place.result.0 p at row c.near_of.ensures.value c.spot-place.ensures in
    let a = min (excess_in B p) (border_in B j).residual in
    let after = sent_at w _ b B x j p a at row spot in
    subst (λ (q : CellsView). IsLaid (put_block w b q)) (sym c.send.ensures.sent) after.laid

pub returns-clause-sent : goal.returns-clause-sent
returns-clause-sent c =
    let i = c.self.inside in
    let w : Whole = whole_of i.net i.parts in
    let b = c.row-block.result.0 in
    let j = c.row-block.result.1 in
    let B = c.index_mut.result.now in
    let at = at_read w c.args.self.now b B c.self.invariant c.self.view_is c.row-block.ensures.block c.index_mut.ensures.value in
    let x = c.args.direction in
    let row = row_as w _ b B x true j at c.row-block.ensures c.requires.border.border in
    let p = c.spot-place.result.1 in
    let spot = spot_as w _ b B x true j c.near_of.result c.spot-place.result.0 p at row c.near_of.ensures.value c.spot-place.ensures in
    let v = c.args.self.now in
    let a = min (excess_in B p) (border_in B j).residual in
    let after = sent_at w _ b B x j p a at row spot in
    let amount = sent_amount w v b B x j p at row spot in
    subst (λ (q : CellsView). blocks_in (put_block w b q) ≡ blocks_after_send v x (min (slice_index v.excess (near v.net x)) (core.lane_at v.lanes x).residual)) (sym c.send.ensures.sent)
    (after.view ∙ ap (blocks_after_send v x) amount)

pub returns-clause-parcel : goal.returns-clause-parcel
returns-clause-parcel c =
    let i = c.self.inside in
    let w : Whole = whole_of i.net i.parts in
    let b = c.row-block.result.0 in
    let j = c.row-block.result.1 in
    let B = c.index_mut.result.now in
    let at = at_read w c.args.self.now b B c.self.invariant c.self.view_is c.row-block.ensures.block c.index_mut.ensures.value in
    let x = c.args.direction in
    let row = row_as w _ b B x true j at c.row-block.ensures c.requires.border.border in
    let p = c.spot-place.result.1 in
    let spot = spot_as w _ b B x true j c.near_of.result c.spot-place.result.0 p at row c.near_of.ensures.value c.spot-place.ensures in
    c.send.ensures.parcel ∙ sent_parcel w _ b B x j p at row spot
