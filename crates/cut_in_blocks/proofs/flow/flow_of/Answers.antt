use Rattle.std.proofs.Common.{◌≡◌, length, arith}
use Rattle.std.proofs.lemmas.List.{with_items_is}
use Rattle.flow_network.specs.Cut.{nodes}
use Rattle.global_relabel.proofs.Bridge.{flow_shown}
use Rattle.cut_in_blocks.proofs.flow.flow_of.Goals as goal

pub returns : goal.returns
returns c =
    let s = c.args.state.now in
    let old_xs = c.in_ok-arc_flow.arc_flow in
    let old_ys = c.in_ok-sink_flow.sink_flow in
    let xs = c.write_arc_flow.new.arc_flow in
    let ys = c.write_sink_flow.new.sink_flow in
    let mx : length old_xs.items ≡ length s.net.arcs = omega (arith, c.in_ok-arc_flow.ensures.len, c.arcs.ensures, old_xs.ok.0) in
    let my : length old_ys.items ≡ nodes s.net = omega (arith, c.in_ok-sink_flow.ensures.len, c.nodes.ensures.value, old_ys.ok.0) in
    let lx : length xs ≡ length s.net.arcs = omega (arith, mx) in
    let ly : length ys ≡ nodes s.net = omega (arith, my) in
    let ex = with_items_is old_xs xs (omega (arith, lx, mx, old_xs.ok.0)) in
    let ey = with_items_is old_ys ys (omega (arith, ly, my, old_ys.ok.0)) in
    rw (ex, ey) (flow_shown s xs ys c.write_sink_flow.ensures.sound lx ly c.write_arc_flow.ensures c.write_sink_flow.ensures.sinks)
