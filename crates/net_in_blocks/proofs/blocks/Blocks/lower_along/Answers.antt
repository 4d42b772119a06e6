use Rattle.std.proofs.Common.{◌≡◌, ◌+◌, ◌<◌, slice_index, ◌∙◌, ap, arith}
use Rattle.block_events.specs.declared.lane.Lane.{Lane}
use Rattle.block_events.specs.Directions.{near, far}
use Rattle.net_in_blocks.proofs.Lowering.{lowered_label, step_down}
use Rattle.net_in_blocks.proofs.blocks.Blocks.lower_along.Goals as goal

pub returns-clause-lowered : goal.returns-clause-lowered
returns-clause-lowered c =
    let b = c.args.self.now in
    let x = c.args.direction in
    let long = c.label-label.ensures.long in
    let at_far : c.label-label.result ≡ slice_index b.labels (far b.net x) = c.label-label.ensures.value ∙ ap (slice_index b.labels) c.far-far.ensures.value in
    let at_near : c.label.result ≡ slice_index b.labels (near b.net x) = c.label.ensures.value ∙ ap (slice_index b.labels) c.near-near.ensures.value in
    let residual = ap (λ (q : Lane). q.residual) c.lane.ensures in
    let above : slice_index b.labels (far b.net x) + 1 < slice_index b.labels (near b.net x) = omega (arith, at_far, at_near, c.if-label.false) in
    rw (c.relabel.ensures, at_far, c.near-near.ensures.value)
    (lowered_label b (near b.net x) (slice_index b.labels (far b.net x) + 1) (omega (arith, c.near-near.ensures.value, c.near-near.ensures.node)) long.labels above
    (step_down b x long.net c.requires (omega (arith, residual, c.if-lane-eq0.false)) above))
