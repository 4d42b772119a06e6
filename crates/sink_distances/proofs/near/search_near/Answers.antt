use Rattle.std.proofs.Common.{◌≡◌, ◌≤◌, ◌+◌, length, arith}
use Rattle.flow_network.specs.Cut.{nodes}
use Rattle.flow_network.specs.Preflow.{Flow, flow_by, sink_flows}
use Rattle.flow_network.specs.Progress.{top_label}
use Rattle.sink_distances.specs.Rows.{carried_flow}
use Rattle.sink_distances.specs.Search.{found_of}
use Rattle.sink_distances.proofs.Order.{count-le-length, label-le-count}
use Rattle.sink_distances.proofs.Searching.{searched_begins_but}
use Rattle.sink_distances.proofs.Levels.{searched_level_but}
use Rattle.sink_distances.proofs.Nearing.{is_zero, search_is_near, found_listed}
use Rattle.sink_distances.proofs.Nearing.IsAt.{Before, Done}
use Rattle.sink_distances.proofs.near.search_near.Goals as goal

pub levels-init : goal.levels-init
levels-init c =
    let labels = c.args.labels.now in
    let long : length labels ≡ nodes c.args.net.now = c.requires.labels_len in
    record {
      search = searched_begins_but c.args.net.now (carried_flow c.args.rows.now) c.args.rooms.now c.clear.new.found (is_zero labels)
          (found_of c.tally_starts-tally.new.labels c.tally_starts-tally.new.order c.tally_starts-tally.result.count)
          c.tally_starts-tally.ensures.limits c.requires.rooms c.tally_starts-tally.ensures.starts
          (λ v l none. c.clear.ensures.zeros v (omega (arith, l, long)) none)
          (λ v l some none. omega (arith, none, c.clear.ensures.others v (omega (arith, l, long)) some, c.top_label.ensures.value));
      level = c.tally_starts-tally.ensures.ones;
      high = omega arith;
      low = omega arith;
    }

pub levels-preserved : goal.levels-preserved
levels-preserved c =
    let flow : Flow = flow_by (carried_flow c.args.rows.now) (sink_flows c.args.net.now c.args.rooms.now) in
    let s = found_of c.levels.found c.levels.order c.levels.tally.count in
    let t = found_of c.mark_level-tally.new.labels c.mark_level-tally.new.order c.mark_level-tally.result.count in
    let now = c.levels.invariant in
    let fits : c.levels.level + 1 ≤ top_label (length c.levels.found) =
    omega (arith, now.low, c.levels-test.true, count-le-length s now.search.order) in
    record {
      search = searched_level_but c.args.net.now flow (is_zero c.args.labels.now) c.levels.next c.levels.level s t now.search c.levels-test.true now.level
          c.mark_level-tally.ensures.grows c.mark_level-tally.ensures.marked c.requires.unreached fits;
      level = c.mark_level-tally.ensures.next;
      high = omega arith;
      low = omega (arith, now.low, c.levels-test.true);
    }

pub returns : goal.returns
returns c =
    let flow : Flow = flow_by (carried_flow c.args.rows.now) (sink_flows c.args.net.now c.args.rooms.now) in
    let s = found_of c.levels.found c.levels.order c.levels.tally.count in
    let now = c.levels.invariant.search in
    record {
      limits = c.tally_starts-tally.ensures.limits;
      near = search_is_near c.args.net.now flow c.args.labels.now c.levels.next c.top_label-2.result s
          c.tally_starts-tally.ensures.limits c.requires.unreached now (Done c.levels-test.false c.top_label-2.ensures.value);
      count = omega (arith, count-le-length s now.order, now.order.order_len);
      places = λ i l. omega (arith, now.order.places i l, now.len);
      listed = found_listed c.args.net.now flow c.args.labels.now c.levels.next c.top_label-2.result s now (omega (arith, c.top_label-2.ensures.value));
      whole = λ most. c.top_label-2.ensures.value;
    }

pub returns-then-aim-lt18446744073709551615-clause-near : goal.returns-then-aim-lt18446744073709551615-clause-near
returns-then-aim-lt18446744073709551615-clause-near c =
    let flow : Flow = flow_by (carried_flow c.args.rows.now) (sink_flows c.args.net.now c.args.rooms.now) in
    let next = c.levels.next in
    search_is_near c.args.net.now flow c.args.labels.now next _ (found_of c.levels.found c.levels.order c.levels.tally.count)
    c.tally_starts-tally.ensures.limits c.requires.unreached c.levels.invariant.search
    (Before c.levels-test.true (omega (arith, c.levels.invariant.level next (omega arith) c.levels-test.true)))

pub returns-then-aim-lt18446744073709551615-clause-listed : goal.returns-then-aim-lt18446744073709551615-clause-listed
returns-then-aim-lt18446744073709551615-clause-listed c =
    let flow : Flow = flow_by (carried_flow c.args.rows.now) (sink_flows c.args.net.now c.args.rooms.now) in
    let s = found_of c.levels.found c.levels.order c.levels.tally.count in
    let now = c.levels.invariant.search in
    found_listed c.args.net.now flow c.args.labels.now c.levels.next _ s now
    (omega (arith, c.levels.invariant.level c.levels.next (omega arith) c.levels-test.true, label-le-count s now.order c.levels.next c.levels-test.true, count-le-length s now.order, now.len))
