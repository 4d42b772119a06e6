use Rattle.std.proofs.Common.{inl, inr, Ok, Err}
use Rattle.std.proofs.lemmas.Result.{err_from_is_err_and}
use Rattle.gco_calls.proofs.PairLines.{asked_given, parts_of_parts}
use Rattle.gco_calls.proofs.pairs.pairs_call.Goals as goal

pub pairs_over-requires : goal.pairs_over-requires
pairs_over-requires g c = (c.type_bounds.sync-N, parts_of_parts _ _ c.in_ok-ready.ensures.ready)

pub returns-in_err-ready-clause-refused : goal.returns-in_err-ready-clause-refused
returns-in_err-ready-clause-refused g c =
    let p = err_from_is_err_and c.from_residual.result c.from_residual.ensures.1 in rw (p.1, p.2) (inl c.in_err-ready.ensures.refused)

pub returns-in-Ok-clause-made : goal.returns-in-Ok-clause-made
returns-in-Ok-clause-made g c = asked_given _ _ c.args.asked (Ok c.in-Ok.made) c.in_ok-ready.ensures.ready c.in-Ok.ensures.made

pub returns-in-Err-clause-refused : goal.returns-in-Err-clause-refused
returns-in-Err-clause-refused g c =
    inr (
      c.in_ok-ready.ensures.ready.given,
      (
        c.in-Err.error,
        asked_given _ _ c.args.asked (Err c.in-Err.error) c.in_ok-ready.ensures.ready c.in-Err.ensures.made,
        c.refusal_of.ensures,
      ),
    )
