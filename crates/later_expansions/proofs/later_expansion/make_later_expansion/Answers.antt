use Rattle.std.proofs.Common.{◌≡◌, ◌↔◌, ◌<◌, ◌∙◌, ℕ, List, All, Err, length, true, ap, sym, subst, refl, arith}
use Rattle.std.specs.List.{Contains}
use Rattle.std.proofs.lemmas.Result.{err_from_is_err_and}
use Rattle.label_energies.specs.declared.change.Move.TheVariants.{Expand}
use Rattle.label_energies.specs.Energies.{labelling}
use Rattle.label_energies.specs.Moves.{IsAllowed}
use Rattle.cost_store.proofs.Meaning.{pairs_meant}
use Rattle.site_bounds.specs.Decisions.{IsSmallestLeast}
use Rattle.move_energy.specs.MoveValues.{move_value}
use Rattle.near_changes.specs.Changes.{changed_after}
use Rattle.near_changes.specs.Fresh.{WasExpanded}
use Rattle.near_changes.specs.Looking.{is_marked, AreTaking}
use Rattle.one_move.proofs.Answers.{costs_free}
use Rattle.one_move.proofs.Relabelled.{values_reach}
use Rattle.later_expansions.specs.Stages.{AreTermsRegular}
use Rattle.later_expansions.proofs.Stages.{refused_cause, taken_best}
use Rattle.later_expansions.proofs.later_expansion.make_later_expansion.Goals as goal

pub returns-in_err-look-clause-moved : goal.returns-in_err-look-clause-moved
returns-in_err-look-clause-moved g c = λ m meant stamped.
    let a = c.args.alpha in
    let f = c.args.labelling.now.at in
    let sizes = c.can_look.ensures.sizes c.if-not-can_look.false in
    let here : a < m.labels = omega (arith, sizes.1, c.requires.working.fits.labels, meant.labels_are) in
    let p = err_from_is_err_and c.from_residual.result c.from_residual.ensures.1 in
    let T : List ℕ → Type 0 = λ h. AreTermsRegular m a h (Err c.in_err-look.field-0.0) in
    rw (p.1, p.2) (
      refl,
      refused_cause (g.H.How.refuses c.args.how.now) m a f c.in_err-look.field-0.0 here
          (subst T c.as_slice.ensures.value (c.in_err-look.ensures.tested m meant)) c.in_err-look.ensures.refused,
    )

pub returns-clause-moved : goal.returns-clause-moved
returns-clause-moved g c = λ m meant stamped.
    let a = c.args.alpha in
    let f = c.args.labelling.now.at in
    let took = is_marked c.look.new.space.stage.taken.items in
    let pairs = pairs_meant _ _ _ m c.requires.working.posed meant in
    let sizes = c.can_look.ensures.sizes c.if-not-can_look.false in
    let size = c.requires.working.fits.sites ∙ sym meant.sites_are in
    let here : a < m.labels = omega (arith, sizes.1, c.requires.working.fits.labels, meant.labels_are) in
    let A : List ℕ → Type 0 = λ h. IsAllowed m (Expand a) (labelling h) in
    let allowed = subst A c.as_slice.ensures.value (c.in_ok-look.ensures.tested m meant c.if-not-branch.false) in
    let free = costs_free m c.args.problem.now.label_costs meant.costs_are (c.can_look.ensures.free c.if-not-can_look.false) in
    let W : List ℕ → Type 0 = λ h. WasExpanded m a (changed_after c.args.changes.now a) (labelling h) in
    let L : List ℕ → Type 0 = λ h. IsSmallestLeast m.sites (move_value m (Expand a) (labelling h)) took in
    let was = stamped.known a (c.can_look.ensures.known c.if-not-can_look.false) in
    let least = subst L c.as_slice.ensures.value (c.in_ok-look.ensures.least m meant c.if-not-branch.false (subst W (sym c.as_slice.ensures.value) was)) in
    let taking = c.in_ok-look.ensures.taking c.if-not-branch.false in
    let taken = c.take.ensures.each took (λ p l.
    subst (λ (xs : List ℕ). (took p ≡ true) ↔ Contains xs p) (sym c.deref.ensures.value) (taking.listed p (omega (arith, l, c.requires.working.fits.sites)))) in
    (here, allowed, taken_best m a f c.take.new.labelling.at took pairs free size c.take.ensures.sizes.sites least taken, c.take.ensures.changed, tt)

pub returns-clause-made : goal.returns-clause-made
returns-clause-made g c =
    let took = is_marked c.look.new.space.stage.taken.items in
    let taking = c.in_ok-look.ensures.taking c.if-not-branch.false in
    let taken = c.take.ensures.each took (λ p l.
    subst (λ (xs : List ℕ). (took p ≡ true) ↔ Contains xs p) (sym c.deref.ensures.value) (taking.listed p (omega (arith, l, c.requires.working.fits.sites)))) in
    (values_reach (Expand c.args.alpha) c.args.labelling.now.at c.take.new.labelling.at took taken, c.take.ensures.changed)

pub returns-clause-taken : goal.returns-clause-taken
returns-clause-taken g c =
    let took = is_marked c.look.new.space.stage.taken.items in
    let taking = c.in_ok-look.ensures.taking c.if-not-branch.false in
    let taken = c.take.ensures.each took (λ p l.
    subst (λ (xs : List ℕ). (took p ≡ true) ↔ Contains xs p) (sym c.deref.ensures.value) (taking.listed p (omega (arith, l, c.requires.working.fits.sites)))) in
    let T : ℕ → Type 0 = λ n. AreTaking n c.look.new.space.stage in
    (subst T (sym c.requires.working.fits.sites) taking, taken, c.can_look.ensures.free c.if-not-can_look.false)

pub look-requires-clause-asked : goal.look-requires-clause-asked
look-requires-clause-asked g c = λ κs lives.
    let u = c.requires.working in
    let sizes = c.can_look.ensures.sizes c.if-not-can_look.false in
    let B : ℕ → Type 0 = λ k. All (λ label. label < k) c.as_slice.result.now in
    record {
      posed = u.posed;
      asked = record {
        sites = ap (λ (xs : List ℕ). length xs) c.as_slice.ensures.value ∙ u.fits.sites;
        labels = subst B u.fits.labels c.as_slice.ensures.below;
        move_of = omega (arith, sizes.1, u.fits.labels);
      };
      few = omega (arith, c.keeps.ensures.sizes.2, u.fits.labels);
      of_problem = u.of_problem;
    }
