use Rattle.std.proofs.Common.{inl, inr}
use Rattle.run_steps.specs.Courses.{cycle_of}
use Rattle.run_steps.proofs.Courses.{come_stands}
use Rattle.run_steps.proofs.course.Course.come_to.Goals.{then-place-last, else-place-last}
use Rattle.run_steps.proofs.course.Course.come_to.Goals as goal

pub returns-clause-stands : goal.returns-clause-stands
returns-clause-stands c = λ m f start g cycles so_far.
    come_stands m (cycle_of c.args.self) c.args.self.allowed _ f start g c.if-place-last.ended c.requires.room cycles so_far
    (elim c.if-place-last.branch [
      | then-place-last w ↦ inl (w.if-place-last.true, w.ended-is)
      | else-place-last w ↦ inr w.ended-is
    ])
