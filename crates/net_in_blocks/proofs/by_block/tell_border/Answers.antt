use Rattle.std.proofs.Common.{◌≡◌, sym, ◌∙◌, ap, subst, refl, slice_index}
use Rattle.block_events.specs.Directions.{far}
use Rattle.block_net.specs.Views.{CellsView, cells_with_known}
use Rattle.block_net.specs.Whole.{Whole, block_at, put_block}
use Rattle.block_split.specs.Split.{whole_of}
use Rattle.net_in_blocks.specs.Views.{IsLaid, blocks_in}
use Rattle.net_in_blocks.specs.ByBlock.{direction_at}
use Rattle.net_in_blocks.proofs.Steps.{at_read}
use Rattle.net_in_blocks.proofs.ByBlock as lemma
use Rattle.net_in_blocks.proofs.by_block.tell_border.Goals as goal

pub returns-clause-laid : goal.returns-clause-laid
returns-clause-laid c =
    let w : Whole = whole_of c.args.net.now c.args.parts.now in
    let b = c.args.block in
    let j = c.args.j in
    let at = at_read w (blocks_in w) b c.index_mut.result.now c.requires.laid refl c.requires.block c.index_mut.ensures.value in
    let made : c.inform.new.self ≡ cells_with_known (block_at w b) j (slice_index (blocks_in w).labels (far w.net (direction_at w b j))) =
    c.inform.ensures ∙ (ap (λ (q : CellsView). cells_with_known q j c.far_label-label.result) (sym at.is) ∙ ap (cells_with_known (block_at w b) j) c.far_label-label.ensures.value) in
    subst (λ (q : CellsView). IsLaid (put_block w b q)) (sym made) (lemma.informed w b j c.requires.laid c.requires.block c.requires.place).laid
