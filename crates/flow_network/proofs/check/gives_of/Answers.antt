use Rattle.std.proofs.Common.{arith, eqb, slice_index, length, ◌≡◌, ◌<◌}
use Rattle.std.proofs.lemmas.List.{get_or_read}
use Rattle.flow_network.specs.Preflow.{arc_at}
use Rattle.flow_network.specs.Cut.{nodes}
use Rattle.flow_network.proofs.Bounds.{flow-le-capacities, number-le-sum, sum-le-sum}
use Rattle.flow_network.proofs.Duality.{arc_is}
use Rattle.flow_network.proofs.check.gives_of.Goals as goal

pub overflow_add-index_mut : goal.overflow_add-index_mut
overflow_add-index_mut c =
    let net = c.args.net.now in
    let h = c.arcs-arcs.ensures.limits in
    let k = c.loop-k.k in
    let l : k < length net.arcs = rw c.arcs-arcs.ensures.value at c.loop-k-test.true in
    let u = (arc_at net k).from in
    let node : u < nodes net = (arc_is net h k l).from in
    let flow = flow-le-capacities net (slice_index c.args.arc_flow.now) (λ i. eqb (arc_at net i).from u) k l c.requires.within in
    let start = number-le-sum c.args.sink_flow.now u (omega (arith, node, c.requires.sinks_len)) in
    let sinks = sum-le-sum c.args.sink_flow.now net.sinks (omega (arith, c.requires.sinks_len, h.same)) (λ v m. c.requires.sinks_within v (omega (arith, m, h.same))) in
    let read = rw c.arcs-arcs.ensures.value at c.index_mut.ensures.value in
    let inside : u < length c.loop-k.totals.items = omega (arith, c.loop-k.invariant.0, node) in
    let here : c.index_mut.result.now ≡ slice_index c.loop-k.totals.items u =
    get_or_read c.loop-k.totals.items u c.index_mut.result.now inside read 0 in
    let told = c.loop-k.invariant.1 u node in
    omega (arith, here, told, flow, start, h.total, sinks)
