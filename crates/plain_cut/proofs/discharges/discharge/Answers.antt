use Rattle.std.proofs.Common.{◌≡◌, ◌<◌, slice_index, refl, ap, arith}
use Rattle.std.proofs.lemmas.List.{get_or_read}
use Rattle.flow_network.specs.Progress.{top}
use Rattle.plain_cut.specs.declared.work.Work.{Work}
use Rattle.plain_cut.specs.State.{IsSteps}
use Rattle.plain_cut.proofs.Steps.{steps_more, steps_none, steps_one}
use Rattle.plain_cut.proofs.discharges.discharge.Goals as goal

pub steps-init : goal.steps-init
steps-init c = record { steps = steps_none c.args.net.now c.args.v c.args.work.now c.requires.work; aside = λ at. refl }

pub steps-preserved : goal.steps-preserved
steps-preserved c =
    let net = c.args.net.now in
    let v = c.args.v in
    let old = c.args.work.now in
    let here = c.steps.work in
    let pushed : IsSteps net v old c.push_all.new.work = steps_more net v old here c.push_all.new.work c.steps.invariant.steps c.in_ok-push_all.ensures.steps in
    let label : c.index.result.now ≡ slice_index here.labels.items v =
    get_or_read here.labels.items v c.index.result.now (omega (arith, c.requires.node, c.steps.invariant.steps.work.sound.labelling.len)) c.index.ensures 0 in
    record {
      steps = steps_more net v old c.push_all.new.work c.relabel.new.work pushed (steps_one net v c.push_all.new.work c.relabel.new.work c.relabel.ensures);
      aside = λ at. absurd (omega (arith, at, label, c.steps-test.true, ap (λ (w : Work). slice_index w.labels.items v) (c.steps.invariant.aside at)));
    }

pub relabel-requires-clause-label : goal.relabel-requires-clause-label
relabel-requires-clause-label c =
    let v = c.args.v in
    let here = c.steps.work in
    let label : c.index.result.now ≡ slice_index here.labels.items v =
    get_or_read here.labels.items v c.index.result.now (omega (arith, c.requires.node, c.steps.invariant.steps.work.sound.labelling.len)) c.index.ensures 0 in
    let low : slice_index here.labels.items v < top c.args.net.now = omega (arith, label, c.steps-test.true, c.requires.limit) in
    rw c.in_ok-push_all.ensures.labels low

pub returns-then-index-eq0-clause-steps : goal.returns-then-index-eq0-clause-steps
returns-then-index-eq0-clause-steps c =
    steps_more c.args.net.now c.args.v c.args.work.now c.steps.work c.push_all.new.work c.steps.invariant.steps c.in_ok-push_all.ensures.steps

pub returns-then-index-eq0-clause-aside : goal.returns-then-index-eq0-clause-aside
returns-then-index-eq0-clause-aside c = λ at.
    let v = c.args.v in
    let here = c.steps.work in
    let label : c.index.result.now ≡ slice_index here.labels.items v =
    get_or_read here.labels.items v c.index.result.now (omega (arith, c.requires.node, c.steps.invariant.steps.work.sound.labelling.len)) c.index.ensures 0 in
    absurd (omega (arith, at, label, c.steps-test.true, ap (λ (w : Work). slice_index w.labels.items v) (c.steps.invariant.aside at)))

pub relabel-requires-clause-stuck : goal.relabel-requires-clause-stuck
relabel-requires-clause-stuck c =
    let v = c.args.v in
    let after = c.push_all.new.work in
    let left : c.index-in-steps.result.now ≡ slice_index after.excess.items v =
    get_or_read after.excess.items v c.index-in-steps.result.now (omega (arith, c.requires.node, c.in_ok-push_all.ensures.steps.work.sound.kept_len)) c.index-in-steps.ensures 0 in
    c.in_ok-push_all.ensures.stuck (omega (arith, left, c.if-index-eq0.false))
