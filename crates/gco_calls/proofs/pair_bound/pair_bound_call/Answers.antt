use Rattle.std.proofs.Common.{inl, inr, Ok, Err}
use Rattle.std.proofs.lemmas.Result.{err_from_is_err_and}
use Rattle.gco_calls.proofs.PairLines.{bound_of_call, parts_of_parts}
use Rattle.gco_calls.proofs.pair_bound.pair_bound_call.Goals as goal

pub pair_bound_over-requires : goal.pair_bound_over-requires
pair_bound_over-requires g c = (c.type_bounds.sync-N, parts_of_parts _ _ c.in_ok-ready.ensures.ready)

pub returns-in_err-ready-clause-refused : goal.returns-in_err-ready-clause-refused
returns-in_err-ready-clause-refused g c =
    let p = err_from_is_err_and c.from_residual.result c.from_residual.ensures.1 in rw (p.1, p.2) (inl c.in_err-ready.ensures.refused)

pub returns-in-Ok-clause-bound : goal.returns-in-Ok-clause-bound
returns-in-Ok-clause-bound g c = bound_of_call _ _ c.args.allowed (Ok c.in-Ok.found) c.in_ok-ready.ensures.ready c.in-Ok.ensures

pub returns-in-Err-clause-refused : goal.returns-in-Err-clause-refused
returns-in-Err-clause-refused g c =
    inr (
      c.in_ok-ready.ensures.ready.given,
      (
        c.in-Err.error,
        bound_of_call _ _ c.args.allowed (Err c.in-Err.error) c.in_ok-ready.ensures.ready c.in-Err.ensures,
        c.refusal_of.ensures,
      ),
    )
