use Rattle.std.proofs.Common.{ap, ◌∙◌}
use Rattle.block_net.specs.declared.lanes.InnerLane.{InnerLane}
use Rattle.block_net.specs.declared.lanes.Border.{Border}
use Rattle.cut_in_blocks.proofs.Residuals.{back_is}
use Rattle.cut_in_blocks.proofs.flow.taken_back.Goals as goal

pub lane-requires : goal.lane-requires
lane-requires c =
    let back = back_is c.args.state.now c.parts-parts.result.now c.args.node_blocks.now c.args.arc c.ends_node_blocks-from.result.0 c.ends_node_blocks-from.result.1 c.back_slot-slot.result
    c.net.result.now c.net-2.result.now c.index-cells.result.now c.parts-parts.ensures c.requires.node_blocks c.requires.arc c.net.ensures.value c.net-2.ensures.value
    c.ends_node_blocks-from.ensures.from c.ends_node_blocks-from.ensures.to c.back_slot-slot.ensures c.index-cells.ensures in
    (back.inner c.if-from-to.true).0

pub border-requires : goal.border-requires
border-requires c =
    let back = back_is c.args.state.now c.parts-parts.result.now c.args.node_blocks.now c.args.arc c.ends_node_blocks-from.result.0 c.ends_node_blocks-from.result.1 c.back_slot-slot.result
    c.net.result.now c.net-2.result.now c.index-cells.result.now c.parts-parts.ensures c.requires.node_blocks c.requires.arc c.net.ensures.value c.net-2.ensures.value
    c.ends_node_blocks-from.ensures.from c.ends_node_blocks-from.ensures.to c.back_slot-slot.ensures c.index-cells.ensures in
    (back.outer c.if-from-to.false).0

pub returns-then-from-to : goal.returns-then-from-to
returns-then-from-to c =
    let back = back_is c.args.state.now c.parts-parts.result.now c.args.node_blocks.now c.args.arc c.ends_node_blocks-from.result.0 c.ends_node_blocks-from.result.1 c.back_slot-slot.result
    c.net.result.now c.net-2.result.now c.index-cells.result.now c.parts-parts.ensures c.requires.node_blocks c.requires.arc c.net.ensures.value c.net-2.ensures.value
    c.ends_node_blocks-from.ensures.from c.ends_node_blocks-from.ensures.to c.back_slot-slot.ensures c.index-cells.ensures in
    ap (λ (q : InnerLane). q.residual) c.lane.ensures.value ∙ (back.inner c.if-from-to.true).1

pub returns-else-from-to : goal.returns-else-from-to
returns-else-from-to c =
    let back = back_is c.args.state.now c.parts-parts.result.now c.args.node_blocks.now c.args.arc c.ends_node_blocks-from.result.0 c.ends_node_blocks-from.result.1 c.back_slot-slot.result
    c.net.result.now c.net-2.result.now c.index-cells.result.now c.parts-parts.ensures c.requires.node_blocks c.requires.arc c.net.ensures.value c.net-2.ensures.value
    c.ends_node_blocks-from.ensures.from c.ends_node_blocks-from.ensures.to c.back_slot-slot.ensures c.index-cells.ensures in
    ap (λ (q : Border). q.residual) c.border.ensures.value ∙ (back.outer c.if-from-to.false).1
