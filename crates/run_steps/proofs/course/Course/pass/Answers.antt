use Rattle.std.proofs.Common.{◌≡◌, ◌∙◌, ◌+◌, true, false, arith, inr}
use Rattle.run_steps.specs.Courses.{cycle_of}
use Rattle.run_steps.proofs.Courses.{turned_so_far}
use Rattle.run_steps.proofs.course.Course.pass.Goals.{then-turned, else-turned, then-turned-2, else-turned-2}
use Rattle.run_steps.proofs.course.Course.pass.Goals as goal

pub returns-clause-stands : goal.returns-clause-stands
returns-clause-stands c = λ m change f g h pairs here goes best told.
    let places : (c.args.turned ≡ true → c.if-turned.last ≡ c.args.self.place) × (c.args.turned ≡ false → c.if-turned.last ≡ c.args.self.last) =
    elim c.if-turned.branch [
      | then-turned w ↦ ((λ so. w.last-is), λ still. (let is = w.if-turned.true in absurd (cc (is, still))))
      | else-turned w ↦ ((λ so. (let is = w.if-turned.false in absurd (cc (is, so)))), λ still. w.last-is)
    ] in
    let changes : (c.args.turned ≡ true → c.if-turned-2.changed ≡ true) × (c.args.turned ≡ false → c.if-turned-2.changed ≡ c.args.self.changed) =
    elim c.if-turned-2.branch [
      | then-turned-2 w ↦ ((λ so. w.changed-is ∙ so), λ still. (let is = w.if-turned-2.true in absurd (cc (is, still))))
      | else-turned-2 w ↦ ((λ so. (let is = w.if-turned-2.false in absurd (cc (is, so)))), λ still. w.changed-is)
    ] in
    let so_far = turned_so_far m (cycle_of c.args.self) c.args.self f g h change c.args.turned c.if-turned-2.changed c.if-turned.last pairs here goes best told
    (λ so. (changes.0 so, places.0 so)) (λ still. (changes.1 still, places.1 still)) in (
      c.come_further.ensures.stands m f goes.start h goes.cycles so_far,
      (
        record { cycles = c.args.self.done; place = c.args.self.place + 1; last = c.if-turned.last; changed = c.if-turned-2.changed; noted = 0 },
        inr (record { start = goes.start; cycles = goes.cycles; so_far = so_far }),
        omega arith,
      ),
    )
