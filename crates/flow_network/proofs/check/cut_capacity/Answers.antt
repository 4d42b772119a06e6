use Rattle.std.proofs.Common.{arith, slice_index_or, false, sum_by, take, length, ap, refl, sym, ◌≡◌, ◌<◌, ◌+◌}
use Rattle.std.proofs.lemmas.List.{take_all}
use Rattle.flow_network.specs.Cut.{enters}
use Rattle.flow_network.specs.declared.arc.Arc.{Arc}
use Rattle.flow_network.proofs.Bounds.{arcs-more-le, sides-all-le}
use Rattle.flow_network.proofs.check.cut_capacity.Goals as goal

pub overflow_add-total : goal.overflow_add-total
overflow_add-total c =
    let arcs = c.arcs-arc-items.result.now in
    let side = λ (v : Rattle.std.proofs.Common.ℕ). slice_index_or c.args.side.now v false in
    let more = arcs-more-le arcs (enters side) c.loop-arc.arc-index c.loop-arc-test.true in
    let sides = sides-all-le c.args.net.now.sources c.args.net.now.sinks side c.sources.ensures.limits.same in
    let whole = ap (λ (xs : Rattle.std.proofs.Common.List Arc). sum_by (λ arc. arc.capacity) xs) c.arcs-arc-items.ensures.value in
    let nodes_part = rw (c.sources.ensures.value, c.sinks.ensures.value) at c.nodes_capacity-total.ensures in
    omega (arith, more, sides, whole, nodes_part, c.loop-arc.invariant, c.sources.ensures.limits.total)

pub returns : goal.returns
returns c =
    let nodes_part = rw (c.sources.ensures.value, c.sinks.ensures.value) at c.nodes_capacity-total.ensures in
    let all = rw (take_all c.loop-arc.arc-index c.arcs-arc-items.result.now c.loop-arc-test.false, c.arcs-arc-items.ensures.value) at c.loop-arc.invariant in
    omega (arith, all, nodes_part)
