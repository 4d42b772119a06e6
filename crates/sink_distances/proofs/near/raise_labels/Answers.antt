use Rattle.std.proofs.Common.{arith, ◌∙◌}
use Rattle.flow_network.specs.Preflow.{Flow, flow_by, sink_flows}
use Rattle.sink_distances.specs.Rows.{carried_flow}
use Rattle.sink_distances.proofs.Nearing.{raised_labelling, raised_zeros, raised_low, raised_near, raised_exact, raised_listed, AreRaisedTo}
use Rattle.sink_distances.proofs.near.raise_labels.Goals as goal

pub returns : goal.returns
returns c =
    let net = c.args.net.now in
    let flow : Flow = flow_by (carried_flow c.args.rows.now) (sink_flows net c.args.rooms.now) in
    let h = c.search_near-extent.ensures.limits in
    let old = c.args.labels.now in
    let new = c.raise_to.new.labels in
    let found = c.search_near-extent.new.found in
    let limit = c.search_near-extent.result.limit in
    let near = c.search_near-extent.ensures.near in
    let len = c.raise_to.auto.labels ∙ c.requires.labels.len in
    let told : AreRaisedTo net limit found old new = λ v l. c.raise_to.ensures v (omega (arith, l, c.requires.labels.len)) in
    let made = raised_labelling net flow limit found old new h c.requires.labels near len told in
    record {
      labelling = made;
      rises = λ v l. omega (arith, told v l);
      zeros = raised_zeros net flow limit found old new near told;
      low = raised_low net flow limit found old new c.requires.low near told;
      fits = near.fits;
      count = c.search_near-extent.ensures.count;
      places = c.search_near-extent.ensures.places;
      listed = raised_listed net flow limit found old new _ _ near told c.search_near-extent.ensures.listed;
      near = raised_near net flow limit found old new c.requires.labels near made told;
      full = raised_exact net flow limit found old new c.requires.labels c.requires.low near len told;
      whole = c.search_near-extent.ensures.whole;
    }
