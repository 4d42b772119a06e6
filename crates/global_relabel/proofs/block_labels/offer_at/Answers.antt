use Rattle.std.proofs.Common.{length, refl, ap, arith}
use Rattle.block_net.specs.Views.{CellsView}
use Rattle.block_net.specs.Whole.{Whole}
use Rattle.block_split.specs.Split.{whole_of}
use Rattle.net_in_blocks.specs.Views.{blocks_in}
use Rattle.net_in_blocks.proofs.Steps.{at_read}
use Rattle.global_relabel.proofs.Places.{IsBorderEnd, border_at_block}
use Rattle.global_relabel.proofs.block_labels.offer_at.Goals as goal

pub far_node-requires-clause-block : goal.far_node-requires-clause-block
far_node-requires-clause-block c =
    let w : Whole = whole_of c.args.split.now.net.now c.args.split.now.parts.now in
    let B = c.index.result.now in
    let at = at_read w (blocks_in w) c.args.block B c.requires.laid refl c.requires.block c.index.ensures in
    let found = border_at_block w c.args.block B at c.args.j (omega (arith, c.requires.place, ap (λ (q : CellsView). length q.borders) at.is)) in
    let end : IsBorderEnd w c.border-border.result found.0 = rw c.border-border.ensures.value found.1 in
    end.block

pub far_node-requires-clause-place : goal.far_node-requires-clause-place
far_node-requires-clause-place c =
    let w : Whole = whole_of c.args.split.now.net.now c.args.split.now.parts.now in
    let B = c.index.result.now in
    let at = at_read w (blocks_in w) c.args.block B c.requires.laid refl c.requires.block c.index.ensures in
    let found = border_at_block w c.args.block B at c.args.j (omega (arith, c.requires.place, ap (λ (q : CellsView). length q.borders) at.is)) in
    let end : IsBorderEnd w c.border-border.result found.0 = rw c.border-border.ensures.value found.1 in
    end.back

pub far_node-requires-clause-node : goal.far_node-requires-clause-node
far_node-requires-clause-node c =
    let w : Whole = whole_of c.args.split.now.net.now c.args.split.now.parts.now in
    let B = c.index.result.now in
    let at = at_read w (blocks_in w) c.args.block B c.requires.laid refl c.requires.block c.index.ensures in
    let found = border_at_block w c.args.block B at c.args.j (omega (arith, c.requires.place, ap (λ (q : CellsView). length q.borders) at.is)) in
    let end : IsBorderEnd w c.border-border.result found.0 = rw c.border-border.ensures.value found.1 in
    omega (arith, end.stands, end.node, c.requires.laid.net.count)

pub offset_bounds-told-far_node : goal.offset_bounds-told-far_node
offset_bounds-told-far_node c =
    let w : Whole = whole_of c.args.split.now.net.now c.args.split.now.parts.now in
    let B = c.index.result.now in
    let at = at_read w (blocks_in w) c.args.block B c.requires.laid refl c.requires.block c.index.ensures in
    let found = border_at_block w c.args.block B at c.args.j (omega (arith, c.requires.place, ap (λ (q : CellsView). length q.borders) at.is)) in
    let end : IsBorderEnd w c.border-border.result found.0 = rw c.border-border.ensures.value found.1 in
    omega (arith, c.far_node.ensures, end.stands, end.node, c.requires.laid.net.count)

pub bounds-told-far_node : goal.bounds-told-far_node
bounds-told-far_node c =
    let w : Whole = whole_of c.args.split.now.net.now c.args.split.now.parts.now in
    let B = c.index.result.now in
    let at = at_read w (blocks_in w) c.args.block B c.requires.laid refl c.requires.block c.index.ensures in
    let found = border_at_block w c.args.block B at c.args.j (omega (arith, c.requires.place, ap (λ (q : CellsView). length q.borders) at.is)) in
    let end : IsBorderEnd w c.border-border.result found.0 = rw c.border-border.ensures.value found.1 in
    omega (arith, c.far_node.ensures, end.stands, end.node, c.requires.told)
