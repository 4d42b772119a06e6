use Rattle.std.proofs.Common.{Bool, length, subst, arith}
use Rattle.run_steps.specs.Cycles.{IsSoFar}
use Rattle.run_steps.specs.Courses.{cycle_of}
use Rattle.run_steps.proofs.Courses.{cycle_more, end_stands}
use Rattle.run_steps.proofs.course.Course.end_cycle.Goals.{else-changed-via-then-changed+else-done-self, else-changed-via-else-changed}
use Rattle.run_steps.proofs.course.Course.end_cycle.Goals as goal

pub returns-then-done-self-clause-stands : goal.returns-then-done-self-clause-stands
returns-then-done-self-clause-stands c = λ m f start g cycles so_far.
    let moves = cycle_of c.args.self in
    let S : Bool → Type 0 = λ b. IsSoFar m moves (length moves) start g b c.args.last in
    let more = cycle_more m moves c.args.self.done f start g c.args.last cycles (subst S c.if-changed.true so_far) in
    c.come_to.ensures.stands m f g g more.0 more.1

pub returns-clause-stands : goal.returns-clause-stands
returns-clause-stands c = λ m f start g cycles so_far.
    end_stands m (cycle_of c.args.self) c.args.self.allowed c.args.self.done c.args.self f start g c.args.changed c.args.last
    (c.args.self.room c.requires.open)
    (elim c.else-changed.branch [
      | else-changed-via-then-changed+else-done-self w ↦ (λ turned. omega (arith, w.if-done-self.false))
      | else-changed-via-else-changed w ↦ (λ turned. (let still = w.if-changed.false in absurd (cc (turned, still))))
    ])
    cycles so_far
