use Rattle.std.proofs.Common.{◌∙◌, Option, Result, sym, subst, inr, Ok, Err}
use Rattle.std.proofs.lemmas.List.{length-map}
use Rattle.gco_arrays.proofs.Parts.{ready_sites, ready_data, ready_costs}
use Rattle.one_move.specs.declared.error.MoveError.{MoveError}
use Rattle.moves.specs.Stretches.{AnswersStretch}
use Rattle.moves.specs.declared.stretch.Stretch.{Stretch}
use Rattle.gco_arrays.specs.Calls.{arrays_with, instance_given}
use Rattle.gco_calls.specs.Stretches.{arrays_from, mark_of}
use Rattle.gco_calls.proofs.Stretches.{stretch_given}
use Rattle.gco_calls.proofs.stretch.stretch_call.Goals as goal

pub stretch_over-requires-clause-sites : goal.stretch_over-requires-clause-sites
stretch_over-requires-clause-sites g c = λ κs live. ready_sites _ _ c.in_ok-ready.ensures.ready

pub stretch_over-requires-clause-data : goal.stretch_over-requires-clause-data
stretch_over-requires-clause-data g c = λ κs live.
    let known = ready_data _ _ c.in_ok-ready.ensures.ready in
    (sym (length-map c.args.given.now.«data».now g.N.Number.value) ∙ known.0, known.1)

pub stretch_over-requires-clause-label_costs : goal.stretch_over-requires-clause-label_costs
stretch_over-requires-clause-label_costs g c = λ κs live. ready_costs _ _ c.in_ok-ready.ensures.ready

pub returns-in-Ok-Some-clause-stretch : goal.returns-in-Ok-Some-clause-stretch
returns-in-Ok-Some-clause-stretch g c = λ start left.
    let a = arrays_with g.N.Number.value c.args.given.now c.args.at.now in
    let R : Option Stretch → Type 0 = λ r. AnswersStretch (instance_given (arrays_from a start)) c.args.kind c.args.cycles start (mark_of c.args.course) c.args.most (Ok r) in
    let T : Result (Option Stretch) MoveError → Type 0 = λ r. AnswersStretch (instance_given (arrays_from a start)) c.args.kind c.args.cycles start (mark_of c.args.course) c.args.most r in
    subst R c.in-Ok-Some.field-0-is (subst T c.in-Ok-Some.is
    (stretch_given a c.in_ok-ready.ready c.args.kind c.args.number c.args.cycles c.args.most c.args.course
    c.args.stamps.now c.args.made.now c.in-Ok.bookmark c.stretch_over.result c.in_ok-ready.ensures.ready c.requires.named
    c.in-Ok.ensures.0 c.in-Ok.ensures.1 c.in-Ok.ensures.2
    (rw (c.deref.ensures.value, c.in-Ok-wide_copy.ensures) at c.stretch_over.ensures.stretch) start left))

pub returns-clause-refused : goal.returns-clause-refused
returns-clause-refused g c =
    inr (inr (
      c.in_ok-ready.ensures.ready.given,
      (
        c.in-Err.error,
        c.in-Err.ensures.refused,
        c.refusal_of.ensures,
        λ start left. stretch_given (arrays_with g.N.Number.value c.args.given.now c.args.at.now) c.in_ok-ready.ready c.args.kind c.args.number c.args.cycles
            c.args.most c.args.course c.args.stamps.now c.args.made.now c.in-Ok.bookmark (Err c.in-Err.error) c.in_ok-ready.ensures.ready c.requires.named
            c.in-Ok.ensures.0 c.in-Ok.ensures.1 c.in-Ok.ensures.2
            (rw (c.deref.ensures.value, c.in-Ok-wide_copy.ensures) at c.in-Err.ensures.stretch) start left,
      ),
    ))
