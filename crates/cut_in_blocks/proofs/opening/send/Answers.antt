use Rattle.std.proofs.Common.{min, ap, arith}
use Rattle.block_net.specs.declared.lanes.InnerLane.{InnerLane}
use Rattle.block_net.specs.Views.{excess_in, lane_in}
use Rattle.cut_in_blocks.proofs.Opened.{pushed_opens, pushed_more}
use Rattle.cut_in_blocks.proofs.opening.send.Goals as goal

pub returns-then-lane-v-clause-opens : goal.returns-then-lane-v-clause-opens
returns-then-lane-v-clause-opens c =
    let B = c.args.cells.now in
    let far = ap (λ (q : InnerLane). q.far) c.lane-lane.ensures.value in
    rw (c.push.ensures) (pushed_opens B c.args.v c.args.j (min (excess_in B c.args.v) (lane_in B c.args.j).residual) c.requires.node c.requires.lane
    (omega arith) (omega arith) (omega (arith, far, c.lane-lane.ensures.far)))

pub returns-then-lane-v-clause-gave : goal.returns-then-lane-v-clause-gave
returns-then-lane-v-clause-gave c = λ higher have.
    let B = c.args.cells.now in
    rw (c.push.ensures) (pushed_more B c.args.v c.args.j (min (excess_in B c.args.v) (lane_in B c.args.j).residual) c.requires.node higher have)
