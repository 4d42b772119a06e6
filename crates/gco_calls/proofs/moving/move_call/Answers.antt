use Rattle.std.proofs.Common.{◌∙◌, inr, sym, Err, Ok}
use Rattle.std.proofs.lemmas.List.{length-map}
use Rattle.gco_arrays.proofs.Parts.{ready_sites, ready_data, ready_smooth, ready_costs}
use Rattle.gco_calls.proofs.Given.{move_given}
use Rattle.gco_calls.proofs.moving.move_call.Goals as goal

pub move_over-requires-clause-sites : goal.move_over-requires-clause-sites
move_over-requires-clause-sites g c = λ κs live. ready_sites _ _ c.in_ok-ready.ensures.ready

pub move_over-requires-clause-data : goal.move_over-requires-clause-data
move_over-requires-clause-data g c = λ κs live.
    let known = ready_data _ _ c.in_ok-ready.ensures.ready in
    (sym (length-map c.args.given.now.«data».now g.N.Number.value) ∙ known.0, known.1)

pub move_over-requires-clause-smooth : goal.move_over-requires-clause-smooth
move_over-requires-clause-smooth g c = λ κs live.
    let known = ready_smooth _ _ c.in_ok-ready.ensures.ready in
    (sym (length-map c.args.given.now.smooth.now g.N.Number.value) ∙ known.0, known.1)

pub move_over-requires-clause-label_costs : goal.move_over-requires-clause-label_costs
move_over-requires-clause-label_costs g c = λ κs live. ready_costs _ _ c.in_ok-ready.ensures.ready

pub returns-in-Ok-clause-moved : goal.returns-in-Ok-clause-moved
returns-in-Ok-clause-moved g c =
    move_given _ _ c.in_ok-ready.ensures.ready c.args.change (Ok c.in-Ok.moved) c.in-Ok.ensures.moved

pub returns-in-Err-clause-refused : goal.returns-in-Err-clause-refused
returns-in-Err-clause-refused g c =
    inr (
      c.in_ok-ready.ensures.ready.given,
      (
        c.in-Err.error,
        move_given _ _ c.in_ok-ready.ensures.ready c.args.change (Err c.in-Err.error) c.in-Err.ensures.moved,
        c.refusal_of.ensures,
      ),
    )
