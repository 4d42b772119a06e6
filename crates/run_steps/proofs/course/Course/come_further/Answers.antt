use Rattle.std.proofs.Common.{◌≡◌, ◌+◌, ℕ, length, subst, arith, inl, inr, rules}
use Rattle.run_steps.specs.Cycles.{IsSoFar}
use Rattle.run_steps.specs.Courses.{cycle_of}
use Rattle.run_steps.proofs.Courses.{left_falls, made_more}
use Rattle.run_steps.proofs.course.Course.come_further.Goals as goal

pub overflow_add-place : goal.overflow_add-place
overflow_add-place c = let inside = c.args.self.inside c.requires.open in search rules

pub returns-else-place-count-clause-stands : goal.returns-else-place-count-clause-stands
returns-else-place-count-clause-stands c = λ m f start g cycles so_far.
    let moves = cycle_of c.args.self in
    let inside = c.args.self.inside c.requires.open in
    let whole : c.args.self.place + 1 ≡ length moves = omega (arith, inside, c.count-count.ensures, c.if-place-count.false) in
    let S : ℕ → Type 0 = λ n. IsSoFar m moves n start g c.args.changed c.args.last in
    c.end_cycle.ensures.stands m f start g cycles (subst S whole so_far)

pub returns-then-place-count-clause-left : goal.returns-then-place-count-clause-left
returns-then-place-count-clause-left c =
    left_falls c.args.self c.come_to.result c.requires.open (c.args.self.room c.requires.open) (c.args.self.inside c.requires.open)
    c.come_to.ensures.asked.0 c.come_to.ensures.asked.1 c.come_to.ensures.asked.2 (λ going. inl c.come_to.ensures.at)

pub returns-else-place-count-clause-left : goal.returns-else-place-count-clause-left
returns-else-place-count-clause-left c =
    left_falls c.args.self c.end_cycle.result c.requires.open (c.args.self.room c.requires.open) (c.args.self.inside c.requires.open)
    c.end_cycle.ensures.asked.0 c.end_cycle.ensures.asked.1 c.end_cycle.ensures.asked.2 (λ going. inr (c.end_cycle.ensures.left going))

pub returns-then-place-count-clause-made : goal.returns-then-place-count-clause-made
returns-then-place-count-clause-made c = λ going.
    made_more c.args.self c.come_to.result c.come_to.ensures.asked.0 c.come_to.ensures.asked.1 (inl c.come_to.ensures.at)

pub returns-else-place-count-clause-made : goal.returns-else-place-count-clause-made
returns-else-place-count-clause-made c = λ going.
    let inside = c.args.self.inside c.requires.open in
    let next = c.end_cycle.ensures.left going in
    made_more c.args.self c.end_cycle.result c.end_cycle.ensures.asked.0 c.end_cycle.ensures.asked.1
    (inr (next.0, next.1, omega (arith, inside, c.count-count.ensures, c.if-place-count.false)))
