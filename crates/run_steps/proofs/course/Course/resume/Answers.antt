use Rattle.std.proofs.Common.{List, ℕ, sym, subst}
use Rattle.run_steps.specs.Courses.{StandsOnCourse, cycle_of}
use Rattle.run_steps.proofs.Courses.{marked_first}
use Rattle.run_steps.proofs.course.Course.resume.Goals as goal

pub returns-then-mark-eq0-2-clause-stands : goal.returns-then-mark-eq0-2-clause-stands
returns-then-mark-eq0-2-clause-stands c = λ m f g is.
    let begun = c.begin-begun.result in
    let P : List ℕ → Type 0 = λ x. StandsOnCourse m (cycle_of begun) c.args.allowed begun f x begun.ended in
    subst P (sym (marked_first m _ c.args.mark f g c.if-mark-eq0.true c.if-mark-eq0-2.true is)) (c.begin-begun.ensures.stands m f)
