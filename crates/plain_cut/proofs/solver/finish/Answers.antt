use Rattle.std.proofs.Common.{arith, ap, length, ◌∙◌, ◌≡◌, ℕ}
use Rattle.std.proofs.lemmas.List.{with_items_is, length-replicate}
use Rattle.std.proofs.lemmas.Result.{IfOk-from_err}
use Rattle.plain_cut.proofs.solver.finish.Goals as goal

pub returns-in_err-order : goal.returns-in_err-order
returns-in_err-order c =
    let e = c.from_residual.ensures.0 in
    record { limits = c.nodes-nodes.ensures.limits; work = IfOk-from_err _ _ e; finished = IfOk-from_err _ _ e; exact = IfOk-from_err _ _ e; order = IfOk-from_err _ _ e; found = IfOk-from_err _ _ e }

pub returns-in_err-found : goal.returns-in_err-found
returns-in_err-found c =
    let e = c.from_residual-in_err-found.ensures.0 in
    record { limits = c.nodes-nodes.ensures.limits; work = IfOk-from_err _ _ e; finished = IfOk-from_err _ _ e; exact = IfOk-from_err _ _ e; order = IfOk-from_err _ _ e; found = IfOk-from_err _ _ e }

pub returns-in_err-work : goal.returns-in_err-work
returns-in_err-work c =
    let e = c.from_residual-in_err-work.ensures.0 in
    record { limits = c.nodes-nodes.ensures.limits; work = IfOk-from_err _ _ e; finished = IfOk-from_err _ _ e; exact = IfOk-from_err _ _ e; order = IfOk-from_err _ _ e; found = IfOk-from_err _ _ e }

pub returns-in_err-maximise : goal.returns-in_err-maximise
returns-in_err-maximise c =
    let e = c.from_residual-in_err-maximise.ensures.0 in
    record { limits = c.nodes-nodes.ensures.limits; work = IfOk-from_err _ _ e; finished = IfOk-from_err _ _ e; exact = IfOk-from_err _ _ e; order = IfOk-from_err _ _ e; found = IfOk-from_err _ _ e }

pub maximise-requires-clause-work : goal.maximise-requires-clause-work
maximise-requires-clause-work c = c.in_ok-work.ensures.work

pub returns : goal.returns
returns c =
    let order = c.in_ok-order.order in
    let found = c.in_ok-found.found in
    let long : length c.maximise.new.order ≡ order.len = omega (arith, c.maximise.auto.order, c.as_mut_slice.ensures.len) in
    let wide : length c.maximise.new.found ≡ found.len = omega (arith, c.maximise.auto.found, c.as_mut_slice-2.ensures.len) in
    let all = ap (length {A = ℕ}) c.in_ok-order.ensures ∙ length-replicate c.nodes-nodes.result 0 in
    let many = ap (length {A = ℕ}) c.in_ok-found.ensures ∙ length-replicate c.nodes-nodes.result 0 in
    record {
      limits = c.nodes-nodes.ensures.limits;
      work = c.in_ok-maximise.ensures.work;
      finished = c.in_ok-maximise.ensures.finished;
      exact = c.in_ok-maximise.ensures.exact;
      order = ap (length {A = ℕ}) (with_items_is order c.maximise.new.order long) ∙ omega (arith, long, order.ok.0, all, c.nodes-nodes.ensures.value);
      found = ap (length {A = ℕ}) (with_items_is found c.maximise.new.found wide) ∙ omega (arith, wide, found.ok.0, many, c.nodes-nodes.ensures.value);
    }
