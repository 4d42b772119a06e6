use Rattle.std.proofs.lemmas.Grind.{common_steps}
use Rattle.std.proofs.Common.{◌≡◌, true, sym, subst, arith}
use Rattle.block_net.specs.Views.{CellsView}
use Rattle.block_net.specs.Whole.{Whole, put_block}
use Rattle.block_split.specs.Split.{whole_of}
use Rattle.block_events.specs.Effects.{blocks_after_delivery}
use Rattle.net_in_blocks.specs.Views.{blocks_in, IsLaid}
use Rattle.net_in_blocks.proofs.Steps.{at_read, row_as, delivered_at}
use Rattle.net_in_blocks.proofs.blocks.Blocks.deliver_parcel.Goals as goal

pub invariant_of-self : goal.invariant_of-self
invariant_of-self c =
    let i = c.self.inside in
    let w : Whole = whole_of i.net i.parts in
    let b = c.row-block.result.0 in
    let p = c.row-block.result.1 in
    let B = c.index_mut.result.now in
    let at = at_read w c.args.self.now b B c.self.invariant c.self.view_is c.row-block.ensures.block c.index_mut.ensures.value in
    let x = c.args.direction in
    let row = row_as w _ b B x true p at c.row-block.ensures c.requires.border in
    subst (λ (q : CellsView). IsLaid (put_block w b q)) (sym c.deliver_parcel.ensures) (delivered_at w _ b B x p at row).laid

pub returns : goal.returns
returns c =
    let i = c.self.inside in
    let w : Whole = whole_of i.net i.parts in
    let b = c.row-block.result.0 in
    let p = c.row-block.result.1 in
    let B = c.index_mut.result.now in
    let at = at_read w c.args.self.now b B c.self.invariant c.self.view_is c.row-block.ensures.block c.index_mut.ensures.value in
    let x = c.args.direction in
    let row = row_as w _ b B x true p at c.row-block.ensures c.requires.border in
    subst (λ (q : CellsView). blocks_in (put_block w b q) ≡ blocks_after_delivery c.args.self.now x) (sym c.deliver_parcel.ensures) (delivered_at w _ b B x p at row).view

pub deliver_parcel-requires : goal.deliver_parcel-requires
deliver_parcel-requires c = grind (arith, common_steps)
