use Rattle.std.proofs.Common.{◌∙◌, inr, sym, Err}
use Rattle.std.proofs.lemmas.List.{length-map}
use Rattle.gco_arrays.proofs.Parts.{ready_sites, ready_data, ready_costs}
use Rattle.gco_calls.proofs.Given.{run_given}
use Rattle.gco_calls.proofs.label.run_call.Goals as goal

pub run_over-requires-clause-sites : goal.run_over-requires-clause-sites
run_over-requires-clause-sites g c = λ κs live. ready_sites _ _ c.in_ok-ready.ensures.ready

pub run_over-requires-clause-data : goal.run_over-requires-clause-data
run_over-requires-clause-data g c = λ κs live.
    let known = ready_data _ _ c.in_ok-ready.ensures.ready in
    (sym (length-map c.args.given.now.«data».now g.N.Number.value) ∙ known.0, known.1)

pub run_over-requires-clause-label_costs : goal.run_over-requires-clause-label_costs
run_over-requires-clause-label_costs g c = λ κs live. ready_costs _ _ c.in_ok-ready.ensures.ready

pub returns-clause-refused : goal.returns-clause-refused
returns-clause-refused g c =
    inr (
      c.in_ok-ready.ensures.ready.given,
      (
        c.in-Err.error,
        c.in-Err.ensures.refused,
        run_given _ _ c.in_ok-ready.ensures.ready c.args.moves c.args.cycles (Err c.in-Err.error)
            (rw (c.deref.ensures.value, c.in-Ok.ensures) at c.in-Err.ensures.run),
        c.refusal_of.ensures,
      ),
    )
