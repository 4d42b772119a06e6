use Rattle.std.proofs.Common.{inr, length}
use Rattle.flow_network.specs.Cut.{nodes}
use Rattle.flow_network.specs.Preflow.{Flow, flow_by, sink_flows}
use Rattle.sink_distances.specs.Search.{found_of}
use Rattle.sink_distances.proofs.Searching.{all_unlabelled, all_starts, searched_begins, searched_more, searched_exact}
use Rattle.sink_distances.proofs.search.write_distances.Goals as goal

pub search-init : goal.search-init
search-init c =
    let net = c.args.net.now in
    let s = found_of c.mark_starts-count.new.labels c.mark_starts-count.new.order c.mark_starts-count.result in
    let top = rw c.of-outline.ensures at c.top_label.ensures.value in
    let none = all_unlabelled net (length c.args.labels.now) c.top_label.result c.fill.new.self (c.fill.ensures.after (λ y e. e)) c.requires.labels_len top in
    searched_begins net c.args.arc_flow.now c.args.rooms.now s (rw c.of-outline.ensures at c.mark_starts-count.ensures.limits) c.requires.rooms
    (all_starts net c.args.rooms.now c.fill.new.self (nodes net) s (rw c.of-outline.ensures at c.mark_starts-count.ensures.starts) none)

pub mark_starts-count-requires-clause-labels : goal.mark_starts-count-requires-clause-labels
mark_starts-count-requires-clause-labels c =
    let top = rw c.of-outline.ensures at c.top_label.ensures.value in
    rw c.of-outline.ensures (λ v l.
    inr (all_unlabelled c.args.net.now (length c.args.labels.now) c.top_label.result c.fill.new.self (c.fill.ensures.after (λ y e. e)) c.requires.labels_len top v l))

pub search-preserved : goal.search-preserved
search-preserved c =
    let flow : Flow = flow_by c.args.arc_flow.now (sink_flows c.args.net.now c.args.rooms.now) in
    let s = found_of c.search.labels c.search.order c.search.count in
    let t = found_of c.mark_before-count.new.labels c.mark_before-count.new.order c.mark_before-count.result in
    searched_more c.args.net.now flow c.search.next s t c.search.invariant c.search-test.true
    c.mark_before-count.ensures.grows c.mark_before-count.ensures.marked (rw c.of-outline.ensures at c.mark_starts-count.ensures.limits)

pub returns : goal.returns
returns c =
    let flow : Flow = flow_by c.args.arc_flow.now (sink_flows c.args.net.now c.args.rooms.now) in
    searched_exact c.args.net.now flow c.search.next (found_of c.search.labels c.search.order c.search.count)
    (rw c.of-outline.ensures at c.mark_starts-count.ensures.limits) c.search.invariant c.search-test.false
