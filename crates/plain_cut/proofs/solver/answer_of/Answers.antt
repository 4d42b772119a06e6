use Rattle.std.proofs.Common.{◌≡◌, ◌∙◌, ap, arith, sym, length, ℕ}
use Rattle.std.proofs.lemmas.List.{with_items_is}
use Rattle.flow_network.specs.Cut.{set_of}
use Rattle.flow_network.specs.Preflow.{sink_flows}
use Rattle.flow_network.proofs.Bounds.{capacity-le-total}
use Rattle.flow_network.proofs.Given.{length-given}
use Rattle.plain_cut.proofs.Solving.{solved_certified}
use Rattle.plain_cut.proofs.solver.answer_of.Goals as goal

pub returns : goal.returns
returns c =
    let net = c.args.net.now in
    let w = c.args.work in
    let h = c.requires.limits in
    let known = rw c.requires.outline at c.in_ok-side.ensures in
    let side = set_of c.in_ok-side.side.items in
    let told = rw c.as_slice.ensures.value at c.cut_capacity-value.ensures in
    let turned : c.turn_to_given.new.rooms ≡ sink_flows net w.rooms.items = rw (c.sinks.ensures.value, c.as_mut_slice.ensures.value) at c.turn_to_given.ensures in
    let long : length c.turn_to_given.new.rooms ≡ w.rooms.len =
    ap (length {A = ℕ}) turned ∙ (length-given net w.rooms.items h c.requires.work.rooms ∙ (sym c.requires.work.rooms.len ∙ omega (arith, w.rooms.ok.0))) in
    record {
      certified = record {
        bits = known.bits;
        certified = rw (c.in_ok-arc_flow.ensures, with_items_is w.rooms c.turn_to_given.new.rooms long ∙ turned)
            (solved_certified net w side c.cut_capacity-value.result h c.requires.work c.requires.finished c.requires.exact known.reach told);
      };
      smallest = known.smallest;
      bound = omega (arith, told, capacity-le-total net side h, h.total);
    }
