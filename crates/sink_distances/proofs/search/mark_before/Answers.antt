use Rattle.std.proofs.Common.{length, ◌≤◌, slice_index, ◌+◌, arith}
use Rattle.flow_network.specs.Progress.{top_label}
use Rattle.sink_distances.specs.Search.{found_of}
use Rattle.sink_distances.proofs.Order.{count-le-length, grows_falls}
use Rattle.sink_distances.proofs.Scanning.{both_scanned}
use Rattle.sink_distances.proofs.search.mark_before.Goals as goal

pub overflow_add-label : goal.overflow_add-label
overflow_add-label c =
    let low = count-le-length (found_of c.args.labels.now c.args.order.now c.args.count) c.requires.ready.order in
    omega (arith, low, c.requires.ready.next, c.requires.len, c.requires.limits.count)

pub returns-clause-marked : goal.returns-clause-marked
returns-clause-marked c =
    let low = count-le-length (found_of c.args.labels.now c.args.order.now c.args.count) c.requires.ready.order in
    let between = found_of c.mark_tails-count.new.labels c.mark_tails-count.new.order c.mark_tails-count.result in
    let fits : slice_index c.args.labels.now c.args.w + 1 ≤ top_label (length between.labels) = omega (arith, low, c.requires.ready.next, c.mark_tails-count.ensures.grows.len) in
    both_scanned c.args.carried.now.net.now c.args.carried.now.arc_flow.now c.mark_heads.new.labels c.mark_tails-count.new.labels c.args.w
    (slice_index c.args.labels.now c.args.w + 1) c.mark_tails-count.ensures.marked c.mark_heads.ensures.marked
    (grows_falls (slice_index c.args.labels.now c.args.w + 1) _ between
    (found_of c.mark_heads.new.labels c.mark_heads.new.order c.mark_heads.result) c.mark_heads.ensures.grows fits)
