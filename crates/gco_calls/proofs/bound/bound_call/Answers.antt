use Rattle.std.proofs.Common.{◌∙◌, inr, sym, Err, Ok}
use Rattle.std.proofs.lemmas.List.{length-map}
use Rattle.gco_arrays.proofs.Parts.{ready_sites, ready_data, ready_smooth, ready_costs}
use Rattle.gco_calls.proofs.Given.{bound_given}
use Rattle.gco_calls.proofs.bound.bound_call.Goals as goal

pub bound_over-requires-clause-sites : goal.bound_over-requires-clause-sites
bound_over-requires-clause-sites g c = λ κs live. ready_sites _ _ c.in_ok-ready.ensures.ready

pub bound_over-requires-clause-data : goal.bound_over-requires-clause-data
bound_over-requires-clause-data g c = λ κs live.
    let known = ready_data _ _ c.in_ok-ready.ensures.ready in
    (sym (length-map c.args.given.now.«data».now g.N.Number.value) ∙ known.0, known.1)

pub bound_over-requires-clause-smooth : goal.bound_over-requires-clause-smooth
bound_over-requires-clause-smooth g c = λ κs live.
    let known = ready_smooth _ _ c.in_ok-ready.ensures.ready in
    (sym (length-map c.args.given.now.smooth.now g.N.Number.value) ∙ known.0, known.1)

pub bound_over-requires-clause-label_costs : goal.bound_over-requires-clause-label_costs
bound_over-requires-clause-label_costs g c = λ κs live. ready_costs _ _ c.in_ok-ready.ensures.ready

pub returns-in-Ok-clause-bound : goal.returns-in-Ok-clause-bound
returns-in-Ok-clause-bound g c =
    bound_given _ _ c.in_ok-ready.ensures.ready c.args.allowed (Ok c.in-Ok.found) c.in-Ok.ensures

pub returns-in-Err-clause-refused : goal.returns-in-Err-clause-refused
returns-in-Err-clause-refused g c =
    inr (
      c.in_ok-ready.ensures.ready.given,
      (
        c.in-Err.error,
        bound_given _ _ c.in_ok-ready.ensures.ready c.args.allowed (Err c.in-Err.error) c.in-Err.ensures,
        c.refusal_of.ensures,
      ),
    )
