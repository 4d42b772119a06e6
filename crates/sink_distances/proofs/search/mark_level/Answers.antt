use Rattle.std.proofs.Common.{◌+◌, ◌≤◌, length, refl, arith}
use Rattle.flow_network.specs.Progress.{top_label}
use Rattle.sink_distances.specs.Rows.{carried_flow}
use Rattle.sink_distances.specs.Search.{found_of, IsBeforeFrom}
use Rattle.sink_distances.proofs.Order.{count-le-length}
use Rattle.sink_distances.proofs.Levels.{expanded_more, grows_level}
use Rattle.sink_distances.proofs.search.mark_level.Goals as goal

pub nodes-preserved : goal.nodes-preserved
nodes-preserved c =
    let old = found_of c.args.labels.now c.args.order.now c.args.tally.count in
    let was = found_of c.nodes.labels c.nodes.order c.nodes.tally.count in
    let new = found_of c.mark_row-tally.new.labels c.mark_row-tally.new.order c.mark_row-tally.result.count in
    let fits : c.args.level + 1 ≤ top_label (length c.nodes.labels) =
    omega (arith, c.requires.ready.next, count-le-length old c.requires.ready.order, c.nodes.invariant.grows.len) in
    expanded_more c.args.net.now c.args.rows.now (c.args.level + 1) c.args.first c.nodes.place _ old was new c.nodes.invariant fits
    c.nodes.auto.place c.nodes-test.true refl c.mark_row-tally.ensures.grows c.mark_row-tally.ensures.marked

pub returns-clause-marked : goal.returns-clause-marked
returns-clause-marked c = λ v step. c.nodes.invariant.marked step.0 v step.1 (omega (arith, step.2, c.nodes-test.false)) step.3

pub returns-clause-next : goal.returns-clause-next
returns-clause-next c =
    let old = found_of c.args.labels.now c.args.order.now c.args.tally.count in
    grows_level (c.args.level + 1) c.args.first (IsBeforeFrom c.args.net.now (carried_flow c.args.rows.now) c.args.first old) old
    (found_of c.nodes.labels c.nodes.order c.nodes.tally.count) c.requires.ready.order c.nodes.invariant.grows c.requires.some
    (omega (arith, c.requires.high, c.requires.level c.args.first (omega arith) c.requires.some))
