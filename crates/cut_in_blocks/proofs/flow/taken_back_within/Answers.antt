use Rattle.std.proofs.Common.{◌∙◌, ap}
use Rattle.block_net.specs.declared.lanes.InnerLane.{InnerLane}
use Rattle.cut_in_blocks.proofs.Residuals.{back_within}
use Rattle.cut_in_blocks.proofs.flow.taken_back_within.Goals as goal

pub lane-requires : goal.lane-requires
lane-requires c =
    let back = back_within c.args.state.now c.parts-parts.result.now c.args.arc c.back_slot-slot.result c.net.result.now c.index.result.now
    c.parts-parts.ensures c.requires.one c.requires.arc c.net.ensures.value c.back_slot-slot.ensures c.index.ensures in
    back.1

pub returns : goal.returns
returns c =
    let back = back_within c.args.state.now c.parts-parts.result.now c.args.arc c.back_slot-slot.result c.net.result.now c.index.result.now
    c.parts-parts.ensures c.requires.one c.requires.arc c.net.ensures.value c.back_slot-slot.ensures c.index.ensures in
    ap (λ (q : InnerLane). q.residual) c.lane.ensures.value ∙ back.2
