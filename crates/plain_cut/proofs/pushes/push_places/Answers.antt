use Rattle.std.proofs.Common.{arith, inl, inr, ◌≡◌}
use Rattle.std.proofs.lemmas.Bool.{cases_lt}
use Rattle.std.proofs.lemmas.Result.{IfOk-from_err}
use Rattle.plain_cut.proofs.Steps.{steps_more}
use Rattle.plain_cut.proofs.Passes.{push_more, push_place, spent_more, among_more}
use Rattle.plain_cut.proofs.pushes.push_places.Goals as goal

pub try_push-requires-clause-place : goal.try_push-requires-clause-place
try_push-requires-clause-place c =
    push_place c.args.v c.args.work.now c.row.work c.row.p c.row.invariant.push (c.requires.places c.row.p c.row.auto.p c.row-test.true)

pub row-preserved : goal.row-preserved
row-preserved c =
    let net = c.args.net.now in
    let v = c.args.v in
    let p = c.row.p in
    let old = c.args.work.now in
    let now = c.row.work in
    let new = c.try_push.new.work in
    let made = c.in_ok-left.ensures in
    record {
      steps = steps_more net v old now new c.row.invariant.steps made.steps;
      left = made.left;
      push = push_more v old now new c.row.invariant.push made.push;
      others = among_more v c.args.first c.args.last p old now new c.row.invariant.push c.row.auto.p c.row-test.true c.row.invariant.others made.others;
      spent = λ q from below. elim (cases_lt q p) [
        | inl before ↦
            spent_more now new v p q made.push made.others
            (push_place v old now q c.row.invariant.push (c.requires.places q from (omega (arith, before, c.row-test.true))))
            made.spent (c.row.invariant.spent q from before)
        | inr after ↦
            let same : q ≡ p = omega (arith, below, after) in
            rw same made.spent
      ];
    }

-- every direction of these was met
pub returns-clause-spent : goal.returns-clause-spent
returns-clause-spent c = λ p from below. c.row.invariant.spent p from (omega (arith, below, c.row-test.false))

pub try_push-requires-clause-work : goal.try_push-requires-clause-work
try_push-requires-clause-work c = c.row.invariant.steps.work

pub returns-in_err-left : goal.returns-in_err-left
returns-in_err-left c =
    let e = c.from_residual.ensures.0 in
    record { steps = IfOk-from_err _ _ e; push = IfOk-from_err _ _ e; others = IfOk-from_err _ _ e; spent = IfOk-from_err _ _ e }

pub returns-then-left-eq0-clause-steps : goal.returns-then-left-eq0-clause-steps
returns-then-left-eq0-clause-steps c = c.row.invariant.steps

pub returns-then-left-eq0-clause-push : goal.returns-then-left-eq0-clause-push
returns-then-left-eq0-clause-push c = c.row.invariant.push

pub returns-then-left-eq0-clause-others : goal.returns-then-left-eq0-clause-others
returns-then-left-eq0-clause-others c = c.row.invariant.others

pub returns-clause-steps : goal.returns-clause-steps
returns-clause-steps c = c.row.invariant.steps

pub returns-clause-push : goal.returns-clause-push
returns-clause-push c = c.row.invariant.push

pub returns-clause-others : goal.returns-clause-others
returns-clause-others c = c.row.invariant.others
