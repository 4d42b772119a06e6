use Rattle.std.proofs.Common.{◌≡◌, ◌+◌, ◌≤◌, false, length, slice_index, refl, arith}
use Rattle.std.proofs.lemmas.List.{get_or_read}
use Rattle.flow_network.specs.Progress.{top_label}
use Rattle.sink_distances.specs.Search.{found_of}
use Rattle.sink_distances.proofs.Order.{count-le-length}
use Rattle.block_net.specs.Views.{lane_in}
use Rattle.block_net.specs.Whole.{Whole}
use Rattle.block_split.specs.Split.{whole_of}
use Rattle.net_in_blocks.specs.Views.{blocks_in}
use Rattle.net_in_blocks.proofs.Steps.{at_read}
use Rattle.global_relabel.proofs.Places.{lane_at_place, lane_place}
use Rattle.global_relabel.proofs.Seeing.{seen_none, seen_more, seen_all}
use Rattle.global_relabel.proofs.search.mark_lanes.Goals as goal

pub mark_lane-count-requires-clause-opposite : goal.mark_lane-count-requires-clause-opposite
mark_lane-count-requires-clause-opposite c =
    let w : Whole = whole_of c.args.split.now.net.now c.args.split.now.parts.now in
    let b = c.args.at.block in
    let B = c.index-cells.result.now in
    let u = c.args.at.node in
    let p = c.args.at.place in
    let at = at_read w (blocks_in w) b B c.requires.laid refl c.requires.spot.block c.index-cells.ensures in
    let j = c.loop-j.j in
    let found = lane_at_place w b B u p at c.requires.spot j (omega (arith, c.loop-j.auto.j, c.range-range.ensures.first))
    (omega (arith, c.loop-j-test.true, c.range-range.ensures.end)) in
    found.2.back

pub mark_lane-count-requires-clause-node : goal.mark_lane-count-requires-clause-node
mark_lane-count-requires-clause-node c =
    let w : Whole = whole_of c.args.split.now.net.now c.args.split.now.parts.now in
    let b = c.args.at.block in
    let B = c.index-cells.result.now in
    let u = c.args.at.node in
    let p = c.args.at.place in
    let at = at_read w (blocks_in w) b B c.requires.laid refl c.requires.spot.block c.index-cells.ensures in
    let j = c.loop-j.j in
    let found = lane_at_place w b B u p at c.requires.spot j (omega (arith, c.loop-j.auto.j, c.range-range.ensures.first))
    (omega (arith, c.loop-j-test.true, c.range-range.ensures.end)) in
    let first : c.index-first.result.now ≡ slice_index w.firsts b =
    get_or_read w.firsts b c.index-first.result.now (omega (arith, c.requires.spot.block, c.requires.laid.placed.firsts_len)) c.index-first.ensures 0 in
    omega (arith, first, found.2.stands, found.2.node, c.requires.len, c.loop-j.invariant.grows.len)

pub loop-j-init : goal.loop-j-init
loop-j-init c =
    let w : Whole = whole_of c.args.split.now.net.now c.args.split.now.parts.now in
    let b = c.args.at.block in
    let B = c.index-cells.result.now in
    let u = c.args.at.node in
    let p = c.args.at.place in
    let at = at_read w (blocks_in w) b B c.requires.laid refl c.requires.spot.block c.index-cells.ensures in
    seen_none w false u c.args.label c.range-range.result.0 (found_of c.args.labels.now c.args.order.now c.args.count) c.requires.ready
    (λ x l leaves out. omega (arith, (lane_place w b B u p at c.requires.spot x l leaves out).0, c.range-range.ensures.first))

pub loop-j-preserved : goal.loop-j-preserved
loop-j-preserved c =
    let w : Whole = whole_of c.args.split.now.net.now c.args.split.now.parts.now in
    let b = c.args.at.block in
    let B = c.index-cells.result.now in
    let u = c.args.at.node in
    let p = c.args.at.place in
    let at = at_read w (blocks_in w) b B c.requires.laid refl c.requires.spot.block c.index-cells.ensures in
    let j = c.loop-j.j in
    let found = lane_at_place w b B u p at c.requires.spot j (omega (arith, c.loop-j.auto.j, c.range-range.ensures.first))
    (omega (arith, c.loop-j-test.true, c.range-range.ensures.end)) in
    let first : c.index-first.result.now ≡ slice_index w.firsts b =
    get_or_read w.firsts b c.index-first.result.now (omega (arith, c.requires.spot.block, c.requires.laid.placed.firsts_len)) c.index-first.ensures 0 in
    let fits : c.args.label ≤ top_label (length c.loop-j.labels) =
    omega (arith, c.requires.ready.next, count-le-length (found_of c.args.labels.now c.args.order.now c.args.count) c.requires.ready.order, c.loop-j.invariant.grows.len) in
    let v = c.index-first.result.now + (lane_in B j).far in
    seen_more w false u c.args.label j v (lane_in B (lane_in B j).opposite).residual
    (found_of c.args.labels.now c.args.order.now c.args.count) (found_of c.loop-j.labels c.loop-j.order c.loop-j.count)
    (found_of c.mark_lane-count.new.labels c.mark_lane-count.new.order c.mark_lane-count.result) found.0 c.requires.laid.placed c.loop-j.invariant
    fits found.1 (omega (arith, first, found.2.stands)) found.2.residual c.mark_lane-count.ensures.grows c.mark_lane-count.ensures.marked

pub returns-clause-marked : goal.returns-clause-marked
returns-clause-marked c =
    let w : Whole = whole_of c.args.split.now.net.now c.args.split.now.parts.now in
    let b = c.args.at.block in
    let B = c.index-cells.result.now in
    let u = c.args.at.node in
    let p = c.args.at.place in
    let at = at_read w (blocks_in w) b B c.requires.laid refl c.requires.spot.block c.index-cells.ensures in
    seen_all w false u c.args.label c.loop-j.j (found_of c.args.labels.now c.args.order.now c.args.count)
    (found_of c.loop-j.labels c.loop-j.order c.loop-j.count) c.loop-j.invariant
    (λ x l leaves out. omega (arith, (lane_place w b B u p at c.requires.spot x l leaves out).1, c.range-range.ensures.end, c.loop-j-test.false))
