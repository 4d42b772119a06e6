use Rattle.std.proofs.Common.{true, slice_index, refl, ◌∙◌, ap, arith}
use Rattle.block_net.specs.declared.lanes.Border.{Border}
use Rattle.block_net.specs.Whole.{Whole}
use Rattle.block_split.specs.Split.{whole_of}
use Rattle.net_in_blocks.specs.Views.{blocks_in}
use Rattle.net_in_blocks.proofs.Steps.{at_read}
use Rattle.global_relabel.proofs.Places.{IsBorderEnd, border_at_place, border_place, border_residual}
use Rattle.global_relabel.proofs.Nearby.{least_none, least_more, least_all}
use Rattle.global_relabel.proofs.exactness.least_beyond.Goals as goal

pub far_node-requires-clause-block : goal.far_node-requires-clause-block
far_node-requires-clause-block c =
    let w : Whole = whole_of c.args.split.now.net.now c.args.split.now.parts.now in
    let b = c.args.at.block in
    let B = c.index-cells.result.now in
    let at = at_read w (blocks_in w) b B c.requires.laid refl c.requires.spot.block c.index-cells.ensures in
    let j = c.borders.j in
    let found = border_at_place w b B c.args.at.node c.args.at.place at c.requires.spot j (omega (arith, c.borders.auto.j, c.border_range-range.ensures.first))
    (omega (arith, c.borders-test.true, c.border_range-range.ensures.end)) in
    let end : IsBorderEnd w c.border-border.result found.0 = rw c.border-border.ensures.value found.2 in
    end.block

pub far_node-requires-clause-place : goal.far_node-requires-clause-place
far_node-requires-clause-place c =
    let w : Whole = whole_of c.args.split.now.net.now c.args.split.now.parts.now in
    let b = c.args.at.block in
    let B = c.index-cells.result.now in
    let at = at_read w (blocks_in w) b B c.requires.laid refl c.requires.spot.block c.index-cells.ensures in
    let j = c.borders.j in
    let found = border_at_place w b B c.args.at.node c.args.at.place at c.requires.spot j (omega (arith, c.borders.auto.j, c.border_range-range.ensures.first))
    (omega (arith, c.borders-test.true, c.border_range-range.ensures.end)) in
    let end : IsBorderEnd w c.border-border.result found.0 = rw c.border-border.ensures.value found.2 in
    end.back

pub far_node-requires-clause-node : goal.far_node-requires-clause-node
far_node-requires-clause-node c =
    let w : Whole = whole_of c.args.split.now.net.now c.args.split.now.parts.now in
    let b = c.args.at.block in
    let B = c.index-cells.result.now in
    let at = at_read w (blocks_in w) b B c.requires.laid refl c.requires.spot.block c.index-cells.ensures in
    let j = c.borders.j in
    let found = border_at_place w b B c.args.at.node c.args.at.place at c.requires.spot j (omega (arith, c.borders.auto.j, c.border_range-range.ensures.first))
    (omega (arith, c.borders-test.true, c.border_range-range.ensures.end)) in
    let end : IsBorderEnd w c.border-border.result found.0 = rw c.border-border.ensures.value found.2 in
    omega (arith, end.stands, end.node, c.requires.laid.net.count)

pub offset_bounds-labels-far_node : goal.offset_bounds-labels-far_node
offset_bounds-labels-far_node c =
    let w : Whole = whole_of c.args.split.now.net.now c.args.split.now.parts.now in
    let b = c.args.at.block in
    let B = c.index-cells.result.now in
    let at = at_read w (blocks_in w) b B c.requires.laid refl c.requires.spot.block c.index-cells.ensures in
    let j = c.borders.j in
    let found = border_at_place w b B c.args.at.node c.args.at.place at c.requires.spot j (omega (arith, c.borders.auto.j, c.border_range-range.ensures.first))
    (omega (arith, c.borders-test.true, c.border_range-range.ensures.end)) in
    let end : IsBorderEnd w c.border-border.result found.0 = rw c.border-border.ensures.value found.2 in
    omega (arith, c.far_node.ensures, end.stands, end.node, c.requires.laid.net.count)

pub bounds-labels-far_node : goal.bounds-labels-far_node
bounds-labels-far_node c =
    let w : Whole = whole_of c.args.split.now.net.now c.args.split.now.parts.now in
    let b = c.args.at.block in
    let B = c.index-cells.result.now in
    let at = at_read w (blocks_in w) b B c.requires.laid refl c.requires.spot.block c.index-cells.ensures in
    let j = c.borders.j in
    let found = border_at_place w b B c.args.at.node c.args.at.place at c.requires.spot j (omega (arith, c.borders.auto.j, c.border_range-range.ensures.first))
    (omega (arith, c.borders-test.true, c.border_range-range.ensures.end)) in
    let end : IsBorderEnd w c.border-border.result found.0 = rw c.border-border.ensures.value found.2 in
    omega (arith, c.far_node.ensures, end.stands, end.node, c.requires.len)

pub borders-init : goal.borders-init
borders-init c =
    let w : Whole = whole_of c.args.split.now.net.now c.args.split.now.parts.now in
    let b = c.args.at.block in
    let B = c.index-cells.result.now in
    let at = at_read w (blocks_in w) b B c.requires.laid refl c.requires.spot.block c.index-cells.ensures in
    least_none w true c.args.labels.now c.args.at.node c.args.least c.border_range-range.result.0
    (λ x l leaves out. omega (arith, (border_place w b B c.args.at.node c.args.at.place at c.requires.spot x l leaves out).0, c.border_range-range.ensures.first))

pub borders-preserved : goal.borders-preserved
borders-preserved c =
    let w : Whole = whole_of c.args.split.now.net.now c.args.split.now.parts.now in
    let b = c.args.at.block in
    let B = c.index-cells.result.now in
    let at = at_read w (blocks_in w) b B c.requires.laid refl c.requires.spot.block c.index-cells.ensures in
    let j = c.borders.j in
    let found = border_at_place w b B c.args.at.node c.args.at.place at c.requires.spot j (omega (arith, c.borders.auto.j, c.border_range-range.ensures.first))
    (omega (arith, c.borders-test.true, c.border_range-range.ensures.end)) in
    let end : IsBorderEnd w c.border-border.result found.0 = rw c.border-border.ensures.value found.2 in
    let labels = c.args.labels.now in
    let can = ap (λ (border : Border). border.residual) c.border-border.ensures.value in
    least_more w true labels c.args.at.node c.args.least c.borders.least c.least_step-least.result j (slice_index labels c.far_node.result) c.border-border.result.residual
    found.0 c.requires.laid.placed c.borders.invariant found.1 (ap (slice_index labels) (c.far_node.ensures ∙ end.stands))
    (can ∙ border_residual w b B c.args.at.node c.args.at.place at c.requires.spot j found.0 found.1)
    c.least_step-least.ensures.below c.least_step-least.ensures.step c.least_step-least.ensures.reason

pub returns : goal.returns
returns c =
    let w : Whole = whole_of c.args.split.now.net.now c.args.split.now.parts.now in
    let b = c.args.at.block in
    let B = c.index-cells.result.now in
    let at = at_read w (blocks_in w) b B c.requires.laid refl c.requires.spot.block c.index-cells.ensures in
    least_all w true c.args.labels.now c.args.at.node c.args.least c.borders.least c.borders.j c.borders.invariant
    (λ x l leaves out. omega (arith, (border_place w b B c.args.at.node c.args.at.place at c.requires.spot x l leaves out).1, c.border_range-range.ensures.end, c.borders-test.false))
