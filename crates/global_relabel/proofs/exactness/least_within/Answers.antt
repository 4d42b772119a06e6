use Rattle.std.proofs.Common.{◌≡◌, ◌+◌, false, slice_index, refl, ◌∙◌, ap, arith}
use Rattle.std.proofs.lemmas.List.{get_or_read}
use Rattle.block_net.specs.declared.lanes.InnerLane.{InnerLane}
use Rattle.block_net.specs.Whole.{Whole}
use Rattle.block_split.specs.Split.{whole_of}
use Rattle.net_in_blocks.specs.Views.{blocks_in}
use Rattle.net_in_blocks.proofs.Steps.{at_read}
use Rattle.global_relabel.proofs.Places.{lane_at_place, lane_place, lane_residual}
use Rattle.global_relabel.proofs.Nearby.{least_none, least_more, least_all}
use Rattle.global_relabel.proofs.exactness.least_within.Goals as goal

pub bounds-labels-first : goal.bounds-labels-first
bounds-labels-first c =
    let w : Whole = whole_of c.args.split.now.net.now c.args.split.now.parts.now in
    let b = c.args.at.block in
    let B = c.index-cells.result.now in
    let at = at_read w (blocks_in w) b B c.requires.laid refl c.requires.spot.block c.index-cells.ensures in
    let found = lane_at_place w b B c.args.at.node c.args.at.place at c.requires.spot c.lanes.j (omega (arith, c.lanes.auto.j, c.range-range.ensures.first))
    (omega (arith, c.lanes-test.true, c.range-range.ensures.end)) in
    let first : c.index-first.result.now ≡ slice_index w.firsts b =
    get_or_read w.firsts b c.index-first.result.now (omega (arith, c.requires.spot.block, c.requires.laid.placed.firsts_len)) c.index-first.ensures 0 in
    let far = ap (λ (lane : InnerLane). lane.far) c.lane-lane.ensures.value in
    omega (arith, first, far, found.2.stands, found.2.node, c.requires.len)

pub lanes-init : goal.lanes-init
lanes-init c =
    let w : Whole = whole_of c.args.split.now.net.now c.args.split.now.parts.now in
    let b = c.args.at.block in
    let B = c.index-cells.result.now in
    let at = at_read w (blocks_in w) b B c.requires.laid refl c.requires.spot.block c.index-cells.ensures in
    least_none w false c.args.labels.now c.args.at.node c.args.least c.range-range.result.0
    (λ x l leaves out. omega (arith, (lane_place w b B c.args.at.node c.args.at.place at c.requires.spot x l leaves out).0, c.range-range.ensures.first))

pub lanes-preserved : goal.lanes-preserved
lanes-preserved c =
    let w : Whole = whole_of c.args.split.now.net.now c.args.split.now.parts.now in
    let b = c.args.at.block in
    let B = c.index-cells.result.now in
    let u = c.args.at.node in
    let j = c.lanes.j in
    let labels = c.args.labels.now in
    let at = at_read w (blocks_in w) b B c.requires.laid refl c.requires.spot.block c.index-cells.ensures in
    let found = lane_at_place w b B u c.args.at.place at c.requires.spot j (omega (arith, c.lanes.auto.j, c.range-range.ensures.first))
    (omega (arith, c.lanes-test.true, c.range-range.ensures.end)) in
    let first : c.index-first.result.now ≡ slice_index w.firsts b =
    get_or_read w.firsts b c.index-first.result.now (omega (arith, c.requires.spot.block, c.requires.laid.placed.firsts_len)) c.index-first.ensures 0 in
    let far = ap (λ (lane : InnerLane). lane.far) c.lane-lane.ensures.value in
    let can = ap (λ (lane : InnerLane). lane.residual) c.lane-lane.ensures.value in
    let place = c.index-first.result.now + c.lane-lane.result.far in
    least_more w false labels u c.args.least c.lanes.least c.least_step-least.result j (slice_index labels place) c.lane-lane.result.residual
    found.0 c.requires.laid.placed c.lanes.invariant found.1 (ap (slice_index labels) (omega (arith, first, far, found.2.stands)))
    (can ∙ lane_residual w b B u c.args.at.place at c.requires.spot j found.0 found.1)
    c.least_step-least.ensures.below c.least_step-least.ensures.step c.least_step-least.ensures.reason

pub returns : goal.returns
returns c =
    let w : Whole = whole_of c.args.split.now.net.now c.args.split.now.parts.now in
    let b = c.args.at.block in
    let B = c.index-cells.result.now in
    let at = at_read w (blocks_in w) b B c.requires.laid refl c.requires.spot.block c.index-cells.ensures in
    least_all w false c.args.labels.now c.args.at.node c.args.least c.lanes.least c.lanes.j c.lanes.invariant
    (λ x l leaves out. omega (arith, (lane_place w b B c.args.at.node c.args.at.place at c.requires.spot x l leaves out).1, c.range-range.ensures.end, c.lanes-test.false))
