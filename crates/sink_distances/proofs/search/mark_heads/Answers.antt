use Rattle.std.proofs.Common.{length, ◌≡◌, ◌+◌, ◌<◌, ◌≤◌, slice_index, arith}
use Rattle.std.proofs.lemmas.List.{get_or_read}
use Rattle.flow_network.specs.Progress.{top_label}
use Rattle.sink_distances.specs.Search.{found_of}
use Rattle.sink_distances.proofs.Order.{count-le-length}
use Rattle.sink_distances.proofs.Scanning.{heads_more, heads_all}
use Rattle.sink_distances.proofs.search.mark_heads.Goals as goal

pub loop-p-preserved : goal.loop-p-preserved
loop-p-preserved c =
    let net = c.args.carried.now.net.now in
    let a = c.args.carried.now.adjacency.now in
    let g = a.out in
    let is = c.requires.adjacency.out in
    let w = c.args.w in
    let p = c.loop-p.p in
    let old = found_of c.args.labels.now c.args.order.now c.args.count in
    let first : c.index-p.result.now ≡ slice_index g.starts.items w =
    get_or_read g.starts.items w c.index-p.result.now (omega (arith, is.starts_len, c.requires.node)) c.index-p.ensures 0 in
    let last : c.index-p-end.result.now ≡ slice_index g.starts.items (w + 1) =
    get_or_read g.starts.items (w + 1) c.index-p-end.result.now (omega (arith, is.starts_len, c.requires.node)) c.index-p-end.ensures 0 in
    let low : slice_index g.starts.items w ≤ p = omega (arith, first, c.loop-p.auto.p) in
    let high : p < slice_index g.starts.items (w + 1) = omega (arith, last, c.loop-p-test.true) in
    let bound = is.within (w + 1) (omega (arith, c.requires.node)) in
    let here : c.index.result.now ≡ slice_index g.places.items p =
    get_or_read g.places.items p c.index.result.now (omega (arith, is.places_len, high, bound)) c.index.ensures 0 in
    let fits : c.args.label ≤ top_label (length c.loop-p.labels) =
    omega (arith, c.requires.ready.next, count-le-length old c.requires.ready.order, c.loop-p.invariant.grows.len) in
    heads_more net a c.args.carried.now.arc_flow.now w c.args.label p c.index.result.now old
    (found_of c.loop-p.labels c.loop-p.order c.loop-p.count)
    (found_of c.mark_head-count.new.labels c.mark_head-count.new.order c.mark_head-count.result)
    c.requires.adjacency c.requires.node low high c.loop-p.invariant fits here c.mark_head-count.ensures.grows c.mark_head-count.ensures.marked

pub returns-clause-marked : goal.returns-clause-marked
returns-clause-marked c =
    let net = c.args.carried.now.net.now in
    let a = c.args.carried.now.adjacency.now in
    let g = a.out in
    let is = c.requires.adjacency.out in
    let w = c.args.w in
    let last : c.index-p-end.result.now ≡ slice_index g.starts.items (w + 1) =
    get_or_read g.starts.items (w + 1) c.index-p-end.result.now (omega (arith, is.starts_len, c.requires.node)) c.index-p-end.ensures 0 in
    heads_all net a c.args.carried.now.arc_flow.now w c.args.label c.loop-p.p
    (found_of c.args.labels.now c.args.order.now c.args.count) (found_of c.loop-p.labels c.loop-p.order c.loop-p.count)
    c.requires.adjacency c.loop-p.invariant (omega (arith, last, c.loop-p-test.false))
