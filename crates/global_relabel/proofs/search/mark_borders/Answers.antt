use Rattle.std.proofs.Common.{◌≡◌, ◌+◌, ◌≤◌, true, length, slice_index, refl, sym, ◌∙◌, ap, arith}
use Rattle.std.proofs.lemmas.List.{get_or_read}
use Rattle.flow_network.specs.Progress.{top_label}
use Rattle.sink_distances.specs.Search.{found_of}
use Rattle.sink_distances.proofs.Order.{count-le-length}
use Rattle.block_net.specs.Views.{CellsView, border_in}
use Rattle.block_net.specs.Whole.{Whole, no_block, block_at}
use Rattle.block_split.specs.Split.{whole_of}
use Rattle.net_in_blocks.specs.Views.{blocks_in}
use Rattle.net_in_blocks.proofs.Steps.{at_read}
use Rattle.global_relabel.proofs.Places.{IsBorderEnd, border_at_place, border_place}
use Rattle.global_relabel.proofs.Seeing.{seen_none, seen_more, seen_all}
use Rattle.global_relabel.proofs.search.mark_borders.Goals as goal

pub index-first-requires : goal.index-first-requires
index-first-requires c =
    let w : Whole = whole_of c.args.split.now.net.now c.args.split.now.parts.now in
    let b = c.args.at.block in
    let B = c.index-cells.result.now in
    let u = c.args.at.node in
    let p = c.args.at.place in
    let at = at_read w (blocks_in w) b B c.requires.laid refl c.requires.spot.block c.index-cells.ensures in
    let j = c.loop-j.j in
    let found = border_at_place w b B u p at c.requires.spot j (omega (arith, c.loop-j.auto.j, c.border_range-range.ensures.first))
    (omega (arith, c.loop-j-test.true, c.border_range-range.ensures.end)) in
    let end : IsBorderEnd w c.border-border.result found.0 = rw c.border-border.ensures.value found.2 in
    omega (arith, end.block, c.requires.laid.placed.firsts_len)

pub index-requires : goal.index-requires
index-requires c =
    let w : Whole = whole_of c.args.split.now.net.now c.args.split.now.parts.now in
    let b = c.args.at.block in
    let B = c.index-cells.result.now in
    let u = c.args.at.node in
    let p = c.args.at.place in
    let at = at_read w (blocks_in w) b B c.requires.laid refl c.requires.spot.block c.index-cells.ensures in
    let j = c.loop-j.j in
    let found = border_at_place w b B u p at c.requires.spot j (omega (arith, c.loop-j.auto.j, c.border_range-range.ensures.first))
    (omega (arith, c.loop-j-test.true, c.border_range-range.ensures.end)) in
    let end : IsBorderEnd w c.border-border.result found.0 = rw c.border-border.ensures.value found.2 in
    omega (arith, end.block)

pub mark_border-count-requires-clause-place : goal.mark_border-count-requires-clause-place
mark_border-count-requires-clause-place c =
    let w : Whole = whole_of c.args.split.now.net.now c.args.split.now.parts.now in
    let b = c.args.at.block in
    let B = c.index-cells.result.now in
    let u = c.args.at.node in
    let p = c.args.at.place in
    let at = at_read w (blocks_in w) b B c.requires.laid refl c.requires.spot.block c.index-cells.ensures in
    let j = c.loop-j.j in
    let found = border_at_place w b B u p at c.requires.spot j (omega (arith, c.loop-j.auto.j, c.border_range-range.ensures.first))
    (omega (arith, c.loop-j-test.true, c.border_range-range.ensures.end)) in
    let end : IsBorderEnd w c.border-border.result found.0 = rw c.border-border.ensures.value found.2 in
    let to = c.border-border.result.to in
    let there : block_at w to ≡ c.index.result.now = sym (get_or_read w.blocks to c.index.result.now end.block c.index.ensures no_block) in
    let count = ap (λ (q : CellsView). length q.borders) there in
    omega (arith, end.back, count)

pub mark_border-count-requires-clause-node : goal.mark_border-count-requires-clause-node
mark_border-count-requires-clause-node c =
    let w : Whole = whole_of c.args.split.now.net.now c.args.split.now.parts.now in
    let b = c.args.at.block in
    let B = c.index-cells.result.now in
    let u = c.args.at.node in
    let p = c.args.at.place in
    let at = at_read w (blocks_in w) b B c.requires.laid refl c.requires.spot.block c.index-cells.ensures in
    let j = c.loop-j.j in
    let found = border_at_place w b B u p at c.requires.spot j (omega (arith, c.loop-j.auto.j, c.border_range-range.ensures.first))
    (omega (arith, c.loop-j-test.true, c.border_range-range.ensures.end)) in
    let end : IsBorderEnd w c.border-border.result found.0 = rw c.border-border.ensures.value found.2 in
    let to = c.border-border.result.to in
    let o = c.border-border.result.opposite in
    let first : c.index-first.result.now ≡ slice_index w.firsts to =
    get_or_read w.firsts to c.index-first.result.now (omega (arith, end.block, c.requires.laid.placed.firsts_len)) c.index-first.ensures 0 in
    let there : block_at w to ≡ c.index.result.now = sym (get_or_read w.blocks to c.index.result.now end.block c.index.ensures no_block) in
    let near = ap (λ (q : CellsView). (border_in q o).near) there in
    omega (arith, first, near, end.stands, end.node, c.requires.len, c.loop-j.invariant.grows.len)

pub loop-j-init : goal.loop-j-init
loop-j-init c =
    let w : Whole = whole_of c.args.split.now.net.now c.args.split.now.parts.now in
    let b = c.args.at.block in
    let B = c.index-cells.result.now in
    let u = c.args.at.node in
    let p = c.args.at.place in
    let at = at_read w (blocks_in w) b B c.requires.laid refl c.requires.spot.block c.index-cells.ensures in
    seen_none w true u c.args.label c.border_range-range.result.0 (found_of c.args.labels.now c.args.order.now c.args.count) c.requires.ready
    (λ x l leaves out. omega (arith, (border_place w b B u p at c.requires.spot x l leaves out).0, c.border_range-range.ensures.first))

pub loop-j-preserved : goal.loop-j-preserved
loop-j-preserved c =
    let w : Whole = whole_of c.args.split.now.net.now c.args.split.now.parts.now in
    let b = c.args.at.block in
    let B = c.index-cells.result.now in
    let u = c.args.at.node in
    let p = c.args.at.place in
    let at = at_read w (blocks_in w) b B c.requires.laid refl c.requires.spot.block c.index-cells.ensures in
    let j = c.loop-j.j in
    let found = border_at_place w b B u p at c.requires.spot j (omega (arith, c.loop-j.auto.j, c.border_range-range.ensures.first))
    (omega (arith, c.loop-j-test.true, c.border_range-range.ensures.end)) in
    let end : IsBorderEnd w c.border-border.result found.0 = rw c.border-border.ensures.value found.2 in
    let to = c.border-border.result.to in
    let o = c.border-border.result.opposite in
    let first : c.index-first.result.now ≡ slice_index w.firsts to =
    get_or_read w.firsts to c.index-first.result.now (omega (arith, end.block, c.requires.laid.placed.firsts_len)) c.index-first.ensures 0 in
    let there : block_at w to ≡ c.index.result.now = sym (get_or_read w.blocks to c.index.result.now end.block c.index.ensures no_block) in
    let near = ap (λ (q : CellsView). (border_in q o).near) there in
    let can = ap (λ (q : CellsView). (border_in q o).residual) there in
    let fits : c.args.label ≤ top_label (length c.loop-j.labels) =
    omega (arith, c.requires.ready.next, count-le-length (found_of c.args.labels.now c.args.order.now c.args.count) c.requires.ready.order, c.loop-j.invariant.grows.len) in
    let row = border_in c.index.result.now o in
    seen_more w true u c.args.label j (c.index-first.result.now + row.near) row.residual
    (found_of c.args.labels.now c.args.order.now c.args.count) (found_of c.loop-j.labels c.loop-j.order c.loop-j.count)
    (found_of c.mark_border-count.new.labels c.mark_border-count.new.order c.mark_border-count.result) found.0 c.requires.laid.placed c.loop-j.invariant
    fits found.1 (omega (arith, first, near, end.stands)) (sym can ∙ end.residual) c.mark_border-count.ensures.grows c.mark_border-count.ensures.marked

pub returns-clause-marked : goal.returns-clause-marked
returns-clause-marked c =
    let w : Whole = whole_of c.args.split.now.net.now c.args.split.now.parts.now in
    let b = c.args.at.block in
    let B = c.index-cells.result.now in
    let u = c.args.at.node in
    let p = c.args.at.place in
    let at = at_read w (blocks_in w) b B c.requires.laid refl c.requires.spot.block c.index-cells.ensures in
    seen_all w true u c.args.label c.loop-j.j (found_of c.args.labels.now c.args.order.now c.args.count)
    (found_of c.loop-j.labels c.loop-j.order c.loop-j.count) c.loop-j.invariant
    (λ x l leaves out. omega (arith, (border_place w b B u p at c.requires.spot x l leaves out).1, c.border_range-range.ensures.end, c.loop-j-test.false))
