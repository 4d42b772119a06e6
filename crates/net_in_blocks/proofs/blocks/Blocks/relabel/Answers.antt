use Rattle.std.proofs.Common.{◌≡◌, sym, subst}
use Rattle.block_net.specs.Views.{CellsView}
use Rattle.block_net.specs.Whole.{Whole, put_block}
use Rattle.block_split.specs.Split.{whole_of}
use Rattle.block_events.specs.Effects.{blocks_after_relabel}
use Rattle.net_in_blocks.specs.Views.{blocks_in, IsLaid}
use Rattle.net_in_blocks.proofs.Steps.{at_read, labelled_at}
use Rattle.net_in_blocks.proofs.blocks.Blocks.relabel.Goals as goal

pub invariant_of-self : goal.invariant_of-self
invariant_of-self c =
    let i = c.self.inside in
    let w : Whole = whole_of i.net i.parts in
    let b = c.spot-block.result.0 in
    let p = c.spot-block.result.1 in
    let B = c.index_mut.result.now in
    let at = at_read w c.args.self.now b B c.self.invariant c.self.view_is c.spot-block.ensures.block c.index_mut.ensures.value in
    subst (λ (q : CellsView). IsLaid (put_block w b q)) (sym c.relabel.ensures.labelled) (labelled_at w _ b B c.args.v p c.args.label at c.spot-block.ensures c.relabel.ensures.place).laid

pub returns : goal.returns
returns c =
    let i = c.self.inside in
    let w : Whole = whole_of i.net i.parts in
    let b = c.spot-block.result.0 in
    let p = c.spot-block.result.1 in
    let B = c.index_mut.result.now in
    let at = at_read w c.args.self.now b B c.self.invariant c.self.view_is c.spot-block.ensures.block c.index_mut.ensures.value in
    subst (λ (q : CellsView). blocks_in (put_block w b q) ≡ blocks_after_relabel c.args.self.now c.args.v c.args.label) (sym c.relabel.ensures.labelled) (labelled_at w _ b B c.args.v p c.args.label at c.spot-block.ensures c.relabel.ensures.place).view
