use Rattle.std.proofs.Common.{◌≡◌, ◌∙◌, length, ap, arith}
use Rattle.std.proofs.lemmas.List.{with_items_is}
use Rattle.flow_network.specs.declared.arc.Arc.{Arc}
use Rattle.sink_distances.proofs.Carrying.{flow_is}
use Rattle.sink_distances.proofs.carried.carried_flows.Goals as goal

pub returns : goal.returns
returns c =
    let net = c.args.net.now in
    let flow = c.in_ok-flow.flow in
    let told = c.read_each.new.flow in
    let many : length told ≡ length net.arcs = omega (arith, c.read_each.auto.flow, c.as_mut_slice-2.ensures.len, flow.ok.0, c.in_ok-flow.ensures.len, ap (length {A = Arc}) c.arcs.ensures.value) in
    let long : length told ≡ flow.len = omega (arith, c.read_each.auto.flow, c.as_mut_slice-2.ensures.len) in
    with_items_is flow told long ∙ flow_is net c.args.rows.now told c.requires many c.read_each.ensures
