use Rattle.std.proofs.lemmas.Grind.{common_steps}
use Rattle.std.proofs.Common.{◌≡◌, ◌≤◌, ◌+◌, ℕ, List, sym, ◌∙◌, ap, subst, refl, arith, length, slice_range, slice_index}
use Rattle.std.proofs.lemmas.List.{get_or_default}
use Rattle.block_net.specs.Views.{CellsView, count}
use Rattle.block_net.specs.Whole.{Whole, block_at, put_block}
use Rattle.block_split.proofs.Spans.{length_range, range_at}
use Rattle.block_split.specs.Split.{whole_of}
use Rattle.net_in_blocks.specs.Views.{blocks_in}
use Rattle.net_in_blocks.specs.ByBlock.{HasLabelsInBlock}
use Rattle.net_in_blocks.proofs.Steps.{at_read, top_read}
use Rattle.net_in_blocks.proofs.ByBlock.{read_block, labelled_block}
use Rattle.net_in_blocks.proofs.by_block.label_block.Goals as goal

pub overflow_add-part : goal.overflow_add-part
overflow_add-part c =
    let w : Whole = whole_of c.args.net.now c.args.parts.now in
    let read = read_block w c.args.block c.index.result.now c.len-nodes.result c.index-first.result.now c.requires.laid c.requires.block c.index.ensures c.len-nodes.ensures.value c.if-nodes-eq0.false c.index-first.ensures in
    omega (arith, read.within, c.requires.laid.net.count)

pub offset_bounds-labels-first : goal.offset_bounds-labels-first
offset_bounds-labels-first c =
    let w : Whole = whole_of c.args.net.now c.args.parts.now in
    let read = read_block w c.args.block c.index.result.now c.len-nodes.result c.index-first.result.now c.requires.laid c.requires.block c.index.ensures c.len-nodes.ensures.value c.if-nodes-eq0.false c.index-first.ensures in
    omega (arith, read.within, c.requires.laid.net.count)

pub slice_bounds-part-end : goal.slice_bounds-part-end
slice_bounds-part-end c =
    let w : Whole = whole_of c.args.net.now c.args.parts.now in
    let read = read_block w c.args.block c.index.result.now c.len-nodes.result c.index-first.result.now c.requires.laid c.requires.block c.index.ensures c.len-nodes.ensures.value c.if-nodes-eq0.false c.index-first.ensures in
    let le : c.index-first.result.now + c.len-nodes.result ≤ length c.args.labels.now = omega (arith, read.within, c.requires.len) in
    grind (arith, common_steps, le)

pub write_labels-requires-clause-limit : goal.write_labels-requires-clause-limit
write_labels-requires-clause-limit c =
    let w : Whole = whole_of c.args.net.now c.args.parts.now in
    let read = read_block w c.args.block c.index.result.now c.len-nodes.result c.index-first.result.now c.requires.laid c.requires.block c.index.ensures c.len-nodes.ensures.value c.if-nodes-eq0.false c.index-first.ensures in
    let le : c.index-first.result.now + c.len-nodes.result ≤ length c.args.labels.now = omega (arith, read.within, c.requires.len) in
    let first = c.index-first.result.now in
    let at = at_read w (blocks_in w) c.args.block c.index_mut.result.now c.requires.laid refl c.requires.block c.index_mut.ensures.value in
    let top = top_read w (blocks_in w) c.args.block c.index_mut.result.now at in
    λ k d l.
    let len = length_range c.args.labels.now first (first + c.len-nodes.result) le in
    let at_k = get_or_default (slice_range c.args.labels.now first (first + c.len-nodes.result)) k d 0 l ∙ range_at c.args.labels.now first (first + c.len-nodes.result) k 0 (omega (arith, l, len)) in
    omega (arith, at_k, top, c.requires.limit (first + k) (omega (arith, l, len, read.within)))

pub returns : goal.returns
returns c =
    let w : Whole = whole_of c.args.net.now c.args.parts.now in
    let b = c.args.block in
    let labels = c.args.labels.now in
    let first = c.index-first.result.now in
    let read = read_block w b c.index.result.now c.len-nodes.result first c.requires.laid c.requires.block c.index.ensures c.len-nodes.ensures.value c.if-nodes-eq0.false c.index-first.ensures in
    let at = at_read w (blocks_in w) b c.index_mut.result.now c.requires.laid refl c.requires.block c.index_mut.ensures.value in
    let part : slice_range labels first (first + c.len-nodes.result) ≡ slice_range labels (slice_index w.firsts b) (slice_index w.firsts b + count (block_at w b)) =
    rw (sym read.first, sym read.many) refl in
    let made : c.write_labels.new.self ≡ record (block_at w b) { labels = slice_range labels (slice_index w.firsts b) (slice_index w.firsts b + count (block_at w b)) } =
    c.write_labels.ensures ∙ (ap (λ (q : CellsView). record q { labels = slice_range labels first (first + c.len-nodes.result) }) (sym at.is)
    ∙ ap (λ (xs : List ℕ). record (block_at w b) { labels = xs }) part) in
    subst (λ (q : CellsView). HasLabelsInBlock w (put_block w b q) b labels) (sym made)
    (labelled_block w b labels c.requires.laid c.requires.block (omega (arith, read.within, read.many, read.first, c.requires.len)))
