use Rattle.std.proofs.Common.{◌≡◌, Some, slice_get, refl, sym, subst}
use Rattle.std.proofs.lemmas.Result.{err_from_is_err_and}
use Rattle.run_steps.specs.declared.course.Course.{Course}
use Rattle.run_steps.specs.Courses.{cycle_of}
use Rattle.label_energies.specs.Energies.{labelling}
use Rattle.near_changes.specs.declared.changes.Changes.{Changes}
use Rattle.run_steps.specs.Remembered.{AreMovesStamped}
use Rattle.run_steps.proofs.UnderWay.{over_of, run_kept}
use Rattle.run_steps.proofs.under_way.RunUnderWay.step.Goals as goal

pub returns-in_err-advance-clause-chain : goal.returns-in_err-advance-clause-chain
returns-in_err-advance-clause-chain g c = λ kind cycles start from.
    let p = err_from_is_err_and c.from_residual.result c.from_residual.ensures.1 in
    let kept = c.remember.ensures.same in
    let step = c.in_err-advance.ensures.chain kind cycles start (run_kept _ _ c.args.problem.now kind cycles start c.args.labelling.now c.args.self.now c.remember.new.self kept.0 kept.1 kept.2 kept.3 from) in record {
      goes_on = step.goes_on;
      cause = λ m meant. rw (p.1, p.2) (step.cause m meant);
      own = rw (p.1, p.2) step.own;
    }

pub returns-clause-chain : goal.returns-clause-chain
returns-clause-chain g c = λ kind cycles start from.
    let kept = c.remember.ensures.same in
    let step = c.in_ok-advance.ensures.chain kind cycles start (run_kept _ _ c.args.problem.now kind cycles start c.args.labelling.now c.args.self.now c.remember.new.self kept.0 kept.1 kept.2 kept.3 from) in record {
      goes_on = step.goes_on;
      cause = λ m meant. tt;
      own = tt;
    }

pub returns-clause-best : goal.returns-clause-best
returns-clause-best g c = λ m meant.
    let run = c.requires.under_way.3 in
    let kept = c.remember.ensures.same in
    let S : Course → Type 0 = λ s. slice_get (cycle_of s) s.place ≡ Some c.ahead-change.result in
    let R : Changes → Type 0 = λ s. AreMovesStamped m (labelling c.args.labelling.now.at) s c.args.self.now.swaps in
    let W : Changes → Type 0 = λ s. AreMovesStamped m (labelling c.args.labelling.now.at) c.remember.new.self.changes s in
    c.in_ok-advance.ensures.best m meant (subst W (sym kept.2) (subst R (sym kept.1) (run.under_way.stamped m meant))) c.ahead-change.result
    (refl, subst S (sym kept.3) c.ahead-change.ensures.at)

pub advance-requires-clause-over : goal.advance-requires-clause-over
advance-requires-clause-over g c = λ κs lives.
    let run = c.requires.under_way in
    let kept = c.remember.ensures.same in
    over_of _ _ c.args.problem.now run.0 run.1 run.2 _ _
    (run_kept _ _ c.args.problem.now run.0 run.1 run.2 c.args.labelling.now c.args.self.now c.remember.new.self kept.0 kept.1 kept.2 kept.3 run.3)
