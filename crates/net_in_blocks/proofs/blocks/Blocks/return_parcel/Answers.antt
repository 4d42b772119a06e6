use Rattle.std.proofs.lemmas.Grind.{common_steps}
use Rattle.std.proofs.Common.{◌≡◌, true, sym, ap, subst, arith}
use Rattle.block_events.specs.declared.lane.Lane.{Lane}
use Rattle.block_events.specs.Soundness.{amount_out}
use Rattle.block_net.specs.Views.{CellsView, border_in}
use Rattle.block_net.specs.Whole.{Whole, put_block}
use Rattle.block_split.specs.Split.{whole_of}
use Rattle.block_events.specs.Effects.{blocks_after_return}
use Rattle.net_in_blocks.specs.Views.{blocks_in, IsLaid}
use Rattle.net_in_blocks.proofs.Steps.{at_read, top_read, border_read, row_as, border_spot, out_same, returned_at}
use Rattle.net_in_blocks.proofs.blocks.Blocks.return_parcel.Goals as goal

pub return_parcel-requires-clause-fits : goal.return_parcel-requires-clause-fits
return_parcel-requires-clause-fits c =
    let i = c.self.inside in
    let w : Whole = whole_of i.net i.parts in
    let b = c.row-block.result.0 in
    let p = c.row-block.result.1 in
    let B = c.index_mut.result.now in
    let at = at_read w c.args.self.now b B c.self.invariant c.self.view_is c.row-block.ensures.block c.index_mut.ensures.value in
    let x = c.args.direction in
    let row = row_as w _ b B x true p at c.row-block.ensures c.requires.border.border in
    omega (arith, out_same (border_in B p).flight, ap (λ (q : Lane). amount_out q.flight) (border_read w _ b B x p at row), c.requires.fits)

pub return_parcel-requires-clause-told : goal.return_parcel-requires-clause-told
return_parcel-requires-clause-told c =
    let i = c.self.inside in
    let w : Whole = whole_of i.net i.parts in
    let b = c.row-block.result.0 in
    let p = c.row-block.result.1 in
    let B = c.index_mut.result.now in
    let at = at_read w c.args.self.now b B c.self.invariant c.self.view_is c.row-block.ensures.block c.index_mut.ensures.value in
    let x = c.args.direction in
    let row = row_as w _ b B x true p at c.row-block.ensures c.requires.border.border in
    omega (arith, top_read w _ b B at, c.requires.told)

pub invariant_of-self : goal.invariant_of-self
invariant_of-self c =
    let i = c.self.inside in
    let w : Whole = whole_of i.net i.parts in
    let b = c.row-block.result.0 in
    let p = c.row-block.result.1 in
    let B = c.index_mut.result.now in
    let at = at_read w c.args.self.now b B c.self.invariant c.self.view_is c.row-block.ensures.block c.index_mut.ensures.value in
    let x = c.args.direction in
    let row = row_as w _ b B x true p at c.row-block.ensures c.requires.border.border in
    subst (λ (q : CellsView). IsLaid (put_block w b q)) (sym c.return_parcel.ensures) (returned_at w _ b B x p c.args.amount c.args.told at row (border_spot w _ b B x p at row)).laid

pub returns : goal.returns
returns c =
    let i = c.self.inside in
    let w : Whole = whole_of i.net i.parts in
    let b = c.row-block.result.0 in
    let p = c.row-block.result.1 in
    let B = c.index_mut.result.now in
    let at = at_read w c.args.self.now b B c.self.invariant c.self.view_is c.row-block.ensures.block c.index_mut.ensures.value in
    let x = c.args.direction in
    let row = row_as w _ b B x true p at c.row-block.ensures c.requires.border.border in
    subst (λ (q : CellsView). blocks_in (put_block w b q) ≡ blocks_after_return c.args.self.now x c.args.amount c.args.told) (sym c.return_parcel.ensures) (returned_at w _ b B x p c.args.amount c.args.told at row (border_spot w _ b B x p at row)).view

pub return_parcel-requires-clause-place : goal.return_parcel-requires-clause-place
return_parcel-requires-clause-place c = grind (arith, common_steps)
