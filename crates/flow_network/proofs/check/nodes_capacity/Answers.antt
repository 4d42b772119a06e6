use Rattle.std.proofs.Common.{arith, slice_index_or, false, ◌≤◌, ◌+◌, slice_index}
use Rattle.flow_network.proofs.Bounds.{sides-more-le}
use Rattle.flow_network.proofs.check.nodes_capacity.Goals as goal
use Rattle.flow_network.proofs.check.nodes_capacity.Goals.{then-side-v, else-side-v}

pub overflow_add-total : goal.overflow_add-total
overflow_add-total c =
    let bound = sides-more-le c.args.sources.now c.args.sinks.now (λ v. slice_index_or c.args.side.now v false) c.loop-v.v c.loop-v-test.true c.requires.sinks_len in
    let part : c.if-side-v.total ≤ slice_index c.args.sources.now c.loop-v.v + slice_index c.args.sinks.now c.loop-v.v =
    elim c.if-side-v.branch [ then-side-v w ↦ omega arith | else-side-v w ↦ omega arith ] in
    omega (arith, bound, part)
