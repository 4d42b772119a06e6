use Rattle.std.proofs.Common.{length, ◌≤◌, slice_index, ◌+◌, arith}
use Rattle.flow_network.specs.Progress.{top_label}
use Rattle.sink_distances.specs.Search.{found_of}
use Rattle.sink_distances.proofs.Order.{count-le-length, grows_falls}
use Rattle.block_split.specs.Split.{whole_of}
use Rattle.global_relabel.proofs.Seeing.{both_marked}
use Rattle.global_relabel.proofs.search.mark_into.Goals as goal

pub returns-clause-marked : goal.returns-clause-marked
returns-clause-marked c =
    let label = slice_index c.args.labels.now c.args.w + 1 in
    let between = found_of c.mark_lanes-count.new.labels c.mark_lanes-count.new.order c.mark_lanes-count.result in
    let low = count-le-length (found_of c.args.labels.now c.args.order.now c.args.count) c.requires.ready.order in
    let fits : label ≤ top_label (length between.labels) = omega (arith, low, c.requires.ready.next, c.mark_lanes-count.ensures.grows.len) in
    both_marked (whole_of c.args.split.now.net.now c.args.split.now.parts.now) c.args.w label c.mark_lanes-count.new.labels c.mark_borders.new.labels
    c.mark_lanes-count.ensures.marked c.mark_borders.ensures.marked
    (grows_falls label _ between (found_of c.mark_borders.new.labels c.mark_borders.new.order c.mark_borders.result) c.mark_borders.ensures.grows fits)
