use Rattle.std.proofs.Common.{refl, sym, ◌∙◌, ◌≢◌, arith, sum, false, slice_index_or}
use Rattle.flow_network.specs.Preflow.{IsPreflow, Flow}
use Rattle.flow_network.proofs.Bounds.{sum-le-sum, certified_test, not_certified}
use Rattle.flow_network.proofs.check.is_certified.Goals as goal

pub total_of-requires : goal.total_of-requires
total_of-requires c =
    let net = c.args.net.now in
    let h = c.requires.limits in
    let flow : Flow = record { arcs = c.args.arc_flow.now; sinks = c.args.sink_flow.now } in
    let told = rw c.if-not-branch.false at c.in_ok-is_preflow.ensures in
    let p : IsPreflow net flow = told.0 refl in
    let small = sum-le-sum c.args.sink_flow.now net.sinks (omega (arith, p.sinks_len, h.same)) (λ v m. p.sinks v (omega (arith, m, h.same))) in
    omega (arith, small, h.total)

pub returns-then-total_of-value : goal.returns-then-total_of-value
returns-then-total_of-value c =
    let flow : Flow = record { arcs = c.args.arc_flow.now; sinks = c.args.sink_flow.now } in
    let told = c.total_of.ensures in
    let off : sum c.args.sink_flow.now ≢ c.args.value = λ e. c.if-total_of-value.true (told ∙ e) in (
      (λ wrong. absurd (cc)),
      (λ h. absurd (not_certified c.args.net.now flow (λ v. slice_index_or c.args.side.now v false) c.args.value off h)),
    )

pub returns : goal.returns
returns c =
    let flow : Flow = record { arcs = c.args.arc_flow.now; sinks = c.args.sink_flow.now } in
    let told = rw c.if-not-branch.false at c.in_ok-is_preflow.ensures in
    rw c.cut_capacity.ensures
    (certified_test c.args.net.now flow (λ v. slice_index_or c.args.side.now v false) c.args.value (told.0 refl) (sym c.total_of.ensures ∙ c.if-total_of-value.false))
