use Rattle.std.proofs.Common.{◌<◌, ℕ, length, Option, None, inr, sym, subst}
use Rattle.label_energies.specs.Chains.{moves_of}
use Rattle.run_steps.specs.declared.course.Ended.{Ended}
use Rattle.run_steps.specs.Courses.{IsBetweenMoves, StandsOnCourse}
use Rattle.run_steps.proofs.Courses.{has_come}
use Rattle.run_steps.proofs.under_way.RunUnderWay.leave.Goals as goal

pub returns-clause-left : goal.returns-clause-left
returns-clause-left c = λ m cycles start labels same run going.
    let course = c.args.self.course in
    let moves = moves_of course.moves m.labels in
    let E : Option Ended → Type 0 = λ e. StandsOnCourse m moves cycles course start labels e in
    let A : ℕ → Type 0 = λ k. course.done < k in
    let I : ℕ → Type 0 = λ k. course.place < length (moves_of course.moves k) in
    let goes : IsBetweenMoves m moves course start labels = subst E going run.stands in (
      record {
        stands = inr (record { start = goes.start; cycles = goes.cycles; so_far = goes.so_far });
        stamped = (let was = run.stamped.expansions in record { sites = was.sites; most = was.made; known = was.known });
      },
      has_come m moves cycles course start labels None (λ none. subst A run.allowed_is (course.room going)) (λ none. subst I (sym same) (course.inside going)) goes,
    )
