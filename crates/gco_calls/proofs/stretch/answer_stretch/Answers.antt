use Rattle.std.proofs.Common.{◌∙◌, ℕ, List, length, ap, sym, subst, arith}
use Rattle.std.specs.Prelude.{slice_index}
use Rattle.gco_arrays.specs.Calls.{arrays_with}
use Rattle.gco_calls.specs.Stretches.{arrays_from, EndsWithin}
use Rattle.gco_calls.proofs.Stretches.{given_from, pause_is_told}
use Rattle.gco_calls.proofs.Told.{run_is_told}
use Rattle.gco_calls.proofs.stretch.answer_stretch.Goals as goal

pub returns-in-Ok-Over-clause-ended : goal.returns-in-Ok-Over-clause-ended
returns-in-Ok-Over-clause-ended g c = λ ok start left.
    let a = arrays_with g.N.Number.value c.args.given.now c.args.labels.now in
    run_is_told (arrays_from a start) c.args.moves c.args.cycles _ _ c.in-Some.kind c.in-Ok-Over.run'
    (given_from a start c.in-Ok-Over.ensures.given left.sites left.below) c.in-Some.ensures.some (rw c.in-Ok-Over.field-0-is at (c.in-Ok-Over.ensures.stretch start left)).0
    (c.copy_labels.ensures ∙ c.as_slice.ensures.value) c.tell_run.ensures

pub returns-in-Ok-Over-clause-within : goal.returns-in-Ok-Over-clause-within
returns-in-Ok-Over-clause-within g c = λ ok start left.
    let a = arrays_with g.N.Number.value c.args.given.now start in
    let L : List ℕ → Type 0 = λ xs. EndsWithin a c.args.moves c.args.course.now c.args.most xs in
    subst L (sym (c.copy_labels.ensures ∙ c.as_slice.ensures.value)) (record {
      moves = c.in-Some.kind;
      numbered = c.in-Some.ensures.some;
      lead = (rw c.in-Ok-Over.field-0-is at (c.in-Ok-Over.ensures.stretch start left)).1;
    })

pub returns-in-Ok-Paused-clause-paused : goal.returns-in-Ok-Paused-clause-paused
returns-in-Ok-Paused-clause-paused g c = λ ok start left.
    let a = arrays_with g.N.Number.value c.args.given.now c.args.labels.now in
    let copied = c.copy_labels-in-Ok-Paused.ensures ∙ c.as_slice-in-Ok-Paused.ensures.value in
    pause_is_told (arrays_from a start) c.args.moves c.args.cycles c.args.most c.copy_labels-in-Ok-Paused.new.to c.put_back.new.to c.put_back-in-Ok-Paused.new.to
    c.args.course.now c.course_of.result _ c.in-Some.kind c.in-Ok-Paused.pause
    (given_from a start c.in-Ok-Paused.ensures.given left.sites left.below) c.in-Some.ensures.some (rw c.in-Ok-Paused.field-0-is at (c.in-Ok-Paused.ensures.stretch start left))
    (left.sites ∙ sym (rw c.in-Ok-Paused.field-0-is at c.in-Ok-Paused.ensures.sized).sites_are ∙ ap (λ (xs : List ℕ). length xs) (sym copied))
    copied c.course_of.ensures.marked c.course_of.ensures.cycles
    (λ i l. c.put_back.ensures.each i (omega (arith, l, c.put_back.ensures.size)) ∙ ap (λ (xs : List ℕ). slice_index xs i) c.deref.ensures.value)
    (λ i l. c.put_back-in-Ok-Paused.ensures.each i (omega (arith, l, c.put_back-in-Ok-Paused.ensures.size))
    ∙ ap (λ (xs : List ℕ). slice_index xs i) c.deref-in-Ok-Paused.ensures.value)
    (c.put_back.ensures.size ∙ c.in-Ok-Paused.ensures.sizes.0 ∙ sym left.sites)
    c.tell_pause.ensures
