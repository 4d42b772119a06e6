use Rattle.std.proofs.lemmas.Result.{IfOk-from_err}
use Rattle.plain_cut.proofs.solver.solve.Goals as goal

pub returns-in_err-sources : goal.returns-in_err-sources
returns-in_err-sources c =
    let e = c.from_residual.ensures.0 in
    record { certified = IfOk-from_err _ _ e; smallest = IfOk-from_err _ _ e; bound = IfOk-from_err _ _ e }

pub returns-in_err-sinks : goal.returns-in_err-sinks
returns-in_err-sinks c =
    let e = c.from_residual-in_err-sinks.ensures.0 in
    record { certified = IfOk-from_err _ _ e; smallest = IfOk-from_err _ _ e; bound = IfOk-from_err _ _ e }

pub returns-in_err-work : goal.returns-in_err-work
returns-in_err-work c =
    let e = c.from_residual-in_err-work.ensures.0 in
    record { certified = IfOk-from_err _ _ e; smallest = IfOk-from_err _ _ e; bound = IfOk-from_err _ _ e }

pub returns : goal.returns
returns c = c.answer_of.ensures
