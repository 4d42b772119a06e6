use Rattle.std.proofs.Common.{◌∷◌, [], List, subst, sym, All}
use Rattle.std.proofs.lemmas.List.Elements.{All-append, All-cons, All-nil}
use Rattle.part_threads.specs.declared.drawing.DrawnPart.{DrawnPart}
use Rattle.part_threads.proofs.drawing.draw_parts.Goals as goal

pub loop-preserved : goal.loop-preserved
loop-preserved g c =
    let P : DrawnPart → Type 0 = λ drawn. (goal.Fn-dyn g).post c.args.work.now (drawn.part, tt) drawn.answer in
    let one : DrawnPart = record { part = c.fetch_add-part.result; answer = c.work-answer.result } in
    subst (λ (parts : List DrawnPart). All P parts) (sym c.in_ok-push.ensures.items)
    (All-append P c.loop.parts.items (one ∷ []) c.loop.invariant (All-cons P one [] c.work-answer.ensures.0 (All-nil P)))
