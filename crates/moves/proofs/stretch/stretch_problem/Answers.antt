use Rattle.std.proofs.Common.{◌≡◌, ◌∙◌, ◌+◌, ℕ, Option, ap, refl, sym, subst, inr}
use Rattle.std.proofs.lemmas.Result.{err_from_is_err_and}
use Rattle.label_field.specs.LabelFields.{LabelField}
use Rattle.cost_store.specs.LabelCosts.{AreLabelCosts}
use Rattle.label_energies.specs.declared.cycles.Moves.{Moves}
use Rattle.label_energies.specs.Energies.{AreLabelsFree}
use Rattle.one_move.proofs.Answers.{costs_costly}
use Rattle.label_energies.specs.Chains.{moves_of}
use Rattle.run_steps.specs.declared.course.Ended.{Ended}
use Rattle.run_steps.specs.Bookmarks.{IsRunIn, LeadAtMost, WasLeftAt, moves_to}
use Rattle.run_steps.specs.Courses.{IsBegun, StandsOnCourse}
use Rattle.moves.specs.Runs.{MayMake}
use Rattle.moves.specs.Stretches.{IsSizedAs}
use Rattle.moves.proofs.Stretches.{pause_told}
use Rattle.moves.proofs.Telling.{made_free, refused_own}
use Rattle.moves.proofs.stretch.stretch_problem.Goals as goal

pub returns-then-not-may_make-clause-run : goal.returns-then-not-may_make-clause-run
returns-then-not-may_make-clause-run g c = λ m meant start left.
    let costly = c.may_make.ensures.costly c.if-not-may_make.true in
    let A : ℕ → Type 0 = λ k. AreLabelCosts k c.args.problem.now.label_costs in
    let K : Moves → Type 0 = λ k. MayMake m k in
    let priced : ¬ AreLabelsFree m =
    λ free. costs_costly m c.args.problem.now.label_costs (subst A (sym meant.labels_are) c.requires.posed.label_costs) meant.costs_are costly.1 free in
    (start, inr (refl, refl, priced), λ is may. priced (subst K costly.0 may))

pub returns-in_err-make_moves-clause-run : goal.returns-in_err-make_moves-clause-run
returns-in_err-make_moves-clause-run g c = λ m meant start left.
    let run = c.in-Some.ensures.goes_on m meant start left in
    let step = c.in_err-make_moves.ensures.goes_on m meant c.args.request.moves c.args.request.cycles start run in
    let p = err_from_is_err_and c.from_residual.result c.from_residual.ensures.1 in
    rw (p.1, p.2) (
      c.make_moves.new.labelling.at,
      step.cause,
      refused_own m c.args.request.moves c.args.request.cycles start c.make_moves.new.labelling.at c.in_err-make_moves.field-0.0 step.own step.cause,
    )

pub returns-in-Some-outcome-clause-run : goal.returns-in-Some-outcome-clause-run
returns-in-Some-outcome-clause-run g c = λ m meant start left.
    let kind = c.args.request.moves in
    let begun = c.in-Some.ensures.goes_on m meant start left in
    let step = c.in_ok-make_moves.ensures.goes_on m meant kind c.args.request.cycles start begun in
    let there : moves_of kind c.args.request.start.labels ≡ moves_of kind m.labels = ap (moves_of kind) (c.requires.fits.labels ∙ sym meant.labels_are) in
    let stood = c.in-Some.ensures.made ∙ ap (λ moves. moves_to moves c.args.bookmark.mark) there in
    let within = c.in_ok-make_moves.ensures.within m meant kind c.args.request.cycles start begun (c.args.bookmark.mark, left.stands, sym stood) in
    let N : ℕ → Type 0 = λ n. LeadAtMost m (moves_of kind m.labels) n c.args.most start c.make_moves.new.labelling.at in
    let R : LabelField → Type 0 = λ field. LeadAtMost m (moves_of kind m.labels) (moves_to (moves_of kind m.labels) c.args.bookmark.mark) c.args.most start field.at in
    let E : Option Ended → Type 0 = λ e. StandsOnCourse m (moves_of kind m.labels) c.args.request.cycles c.make_moves.new.self.course start c.make_moves.new.labelling.at e in (
      c.end_run.ensures.run m meant c.args.request.cycles start (subst E (sym c.outcome.ensures ∙ c.in-Some-outcome.is) step.goes_on.stands)
          (made_free m kind c.args.problem.now.label_costs meant.costs_are (c.may_make.ensures.may c.if-not-may_make.false)),
      subst R (sym c.end_run.ensures.same) (subst N stood within),
    )

pub returns-in-None-clause-run : goal.returns-in-None-clause-run
returns-in-None-clause-run g c = λ m meant start left.
    let kind = c.args.request.moves in
    let step = c.in_ok-make_moves.ensures.goes_on m meant kind c.args.request.cycles start (c.in-Some.ensures.goes_on m meant start left) in
    let run = step.goes_on in
    let same = meant.labels_are ∙ sym c.make_moves.ensures.over.labels_are in
    let R : Moves → Type 0 = λ k. IsRunIn m k c.args.request.cycles start c.make_moves.new.labelling.at c.make_moves.new.self in
    let L : Moves → Type 0 = λ k. WasLeftAt m k start c.make_moves.new.labelling.at c.leave.result.mark c.leave.result.stamps.items c.leave.result.made.items
    × IsBegun m (moves_of k m.labels) c.args.request.cycles c.leave.result.mark.cycles start c.make_moves.new.labelling.at in
    let was = subst L run.kind_is
    (c.leave.ensures.left m c.args.request.cycles start c.make_moves.new.labelling.at same (subst R (sym run.kind_is) run) (sym c.outcome.ensures ∙ c.in-None.is)) in
    let here : moves_of c.make_moves.new.self.course.moves c.make_moves.new.self.course.labels ≡ moves_of kind m.labels =
    (λ i. moves_of (run.kind_is i) (sym same i)) in
    let there : moves_of kind c.args.request.start.labels ≡ moves_of kind m.labels = ap (moves_of kind) (c.requires.fits.labels ∙ sym meant.labels_are) in
    let further = ap (λ moves. moves_to moves c.leave.result.mark) (sym here) ∙ c.leave.ensures.made ∙ c.in_ok-make_moves.ensures.made (sym c.outcome.ensures ∙ c.in-None.is)
    ∙ ap (λ n. n + c.args.most) (c.in-Some.ensures.made ∙ ap (λ moves. moves_to moves c.args.bookmark.mark) there) in
    pause_told m kind c.args.request.cycles start c.args.bookmark.mark c.args.most c.make_moves.new.labelling c.leave.result c.pause_at.result
    c.pause_at.ensures.same.0 c.pause_at.ensures.same.1 was.0 was.1 further (made_free m kind c.args.problem.now.label_costs meant.costs_are (c.may_make.ensures.may c.if-not-may_make.false)) (c.pause_at.ensures.parts m meant)

pub returns-in-Some-outcome-clause-sized : goal.returns-in-Some-outcome-clause-sized
returns-in-Some-outcome-clause-sized g c =
    let S : LabelField → Type 0 = λ field. IsSizedAs c.args.request.start field in
    subst S (sym c.end_run.ensures.same) (record {
      labels_are = c.make_moves.ensures.sizes.labels;
      sites_are = c.make_moves.ensures.sizes.sites;
      below = c.make_moves.ensures.below;
    })

pub returns-in-None-clause-sized : goal.returns-in-None-clause-sized
returns-in-None-clause-sized g c =
    let S : LabelField → Type 0 = λ field. IsSizedAs c.args.request.start field in
    subst S (sym c.pause_at.ensures.same.0) (record {
      labels_are = c.make_moves.ensures.sizes.labels;
      sites_are = c.make_moves.ensures.sizes.sites;
      below = c.make_moves.ensures.below;
    })
