use Rattle.std.proofs.Common.{◌≡◌, false, min, slice_index, sym, ◌∙◌, ap, subst}
use Rattle.block_events.specs.Directions.{near}
use Rattle.block_events.specs.States as core
use Rattle.block_net.specs.Views.{CellsView, excess_in, lane_in}
use Rattle.block_net.specs.Whole.{Whole, put_block}
use Rattle.block_split.specs.Split.{whole_of}
use Rattle.block_events.specs.Effects.{blocks_after_push}
use Rattle.net_in_blocks.specs.Views.{blocks_in, IsLaid}
use Rattle.net_in_blocks.proofs.Steps.{at_read, row_as, spot_as, pushed_amount, far_spot, back_row, far_other, pushed_at}
use Rattle.net_in_blocks.proofs.blocks.Blocks.push.Goals as goal

pub push-requires-clause-other : goal.push-requires-clause-other
push-requires-clause-other c =
    let i = c.self.inside in
    let w : Whole = whole_of i.net i.parts in
    let b = c.row-block.result.0 in
    let j = c.row-block.result.1 in
    let B = c.index_mut.result.now in
    let at = at_read w c.args.self.now b B c.self.invariant c.self.view_is c.row-block.ensures.block c.index_mut.ensures.value in
    let x = c.args.direction in
    let row = row_as w _ b B x false j at c.row-block.ensures c.requires.inner.inner in
    let p = c.spot-place.result.1 in
    let spot = spot_as w _ b B x false j c.near_of.result c.spot-place.result.0 p at row c.near_of.ensures.value c.spot-place.ensures in
    far_other w _ b B x j p at row spot c.requires.other

pub invariant_of-self : goal.invariant_of-self
invariant_of-self c =
    let i = c.self.inside in
    let w : Whole = whole_of i.net i.parts in
    let b = c.row-block.result.0 in
    let j = c.row-block.result.1 in
    let B = c.index_mut.result.now in
    let at = at_read w c.args.self.now b B c.self.invariant c.self.view_is c.row-block.ensures.block c.index_mut.ensures.value in
    let x = c.args.direction in
    let row = row_as w _ b B x false j at c.row-block.ensures c.requires.inner.inner in
    let p = c.spot-place.result.1 in
    let spot = spot_as w _ b B x false j c.near_of.result c.spot-place.result.0 p at row c.near_of.ensures.value c.spot-place.ensures in
    let a = min (excess_in B p) (lane_in B j).residual in
    let after = pushed_at w _ b B x j p a at row spot (back_row w _ b B x j at row) (far_spot w _ b B x j at row) in
    subst (λ (q : CellsView). IsLaid (put_block w b q)) (sym c.push.ensures) after.laid

pub returns : goal.returns
returns c =
    let i = c.self.inside in
    let w : Whole = whole_of i.net i.parts in
    let b = c.row-block.result.0 in
    let j = c.row-block.result.1 in
    let B = c.index_mut.result.now in
    let at = at_read w c.args.self.now b B c.self.invariant c.self.view_is c.row-block.ensures.block c.index_mut.ensures.value in
    let x = c.args.direction in
    let row = row_as w _ b B x false j at c.row-block.ensures c.requires.inner.inner in
    let p = c.spot-place.result.1 in
    let spot = spot_as w _ b B x false j c.near_of.result c.spot-place.result.0 p at row c.near_of.ensures.value c.spot-place.ensures in
    let v = c.args.self.now in
    let a = min (excess_in B p) (lane_in B j).residual in
    let after = pushed_at w _ b B x j p a at row spot (back_row w _ b B x j at row) (far_spot w _ b B x j at row) in
    let amount = pushed_amount w v b B x j p at row spot in
    subst (λ (q : CellsView). blocks_in (put_block w b q) ≡ blocks_after_push v x (min (slice_index v.excess (near v.net x)) (core.lane_at v.lanes x).residual)) (sym c.push.ensures)
    (after.view ∙ ap (blocks_after_push v x) amount)
