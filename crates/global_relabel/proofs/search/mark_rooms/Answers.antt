use Rattle.std.proofs.Common.{◌≡◌, ◌<◌, length, slice_index, refl, ap, arith}
use Rattle.std.proofs.lemmas.List.{get_or_read}
use Rattle.sink_distances.specs.Search.{found_of}
use Rattle.block_net.specs.Views.{CellsView, count}
use Rattle.net_in_blocks.specs.Views.{blocks_in}
use Rattle.block_split.specs.Split.{whole_of}
use Rattle.net_in_blocks.proofs.Steps.{at_read}
use Rattle.global_relabel.proofs.Rooms.{place_below, starts_more}
use Rattle.global_relabel.proofs.search.mark_rooms.Goals as goal

pub mark_block-count-requires-clause-inside : goal.mark_block-count-requires-clause-inside
mark_block-count-requires-clause-inside c =
    let s = c.args.state.now in
    let p = c.parts-parts.result.now in
    let w = whole_of s.net p in
    let laid = c.parts-parts.ensures.laid in
    let lb : c.each.b < length p.blocks.items = omega (arith, c.each-test.true, c.len-b-end.ensures) in
    let at = at_read w (blocks_in w) c.each.b c.index.result.now laid refl lb c.index.ensures in
    let first : c.index-in-each.result.now ≡ slice_index p.firsts.items c.each.b =
    get_or_read p.firsts.items c.each.b c.index-in-each.result.now (omega (arith, lb, laid.placed.firsts_len)) c.index-in-each.ensures 0 in
    λ q lq. omega (arith, place_below s p c.parts-parts.ensures c.each.b q lb (omega (arith, lq, ap (λ (B : CellsView). count B) at.is)), first, c.each.invariant.0.len)

pub each-preserved : goal.each-preserved
each-preserved c =
    let s = c.args.state.now in
    let p = c.parts-parts.result.now in
    let w = whole_of s.net p in
    let laid = c.parts-parts.ensures.laid in
    let lb : c.each.b < length p.blocks.items = omega (arith, c.each-test.true, c.len-b-end.ensures) in
    let at = at_read w (blocks_in w) c.each.b c.index.result.now laid refl lb c.index.ensures in
    let first : c.index-in-each.result.now ≡ slice_index p.firsts.items c.each.b =
    get_or_read p.firsts.items c.each.b c.index-in-each.result.now (omega (arith, lb, laid.placed.firsts_len)) c.index-in-each.ensures 0 in
    starts_more s p c.parts-parts.ensures c.each.b c.index-in-each.result.now c.index.result.now (found_of c.each.labels c.each.order c.each.count)
    (found_of c.mark_block-count.new.labels c.mark_block-count.new.order c.mark_block-count.result) lb first at.is c.each.invariant.0 c.each.invariant.1
    c.mark_block-count.ensures.grows c.mark_block-count.ensures.marked
