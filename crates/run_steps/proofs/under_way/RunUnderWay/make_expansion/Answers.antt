use Rattle.std.proofs.Common.{◌∙◌, Bool, List, Option, Ok, length, refl, sym, subst}
use Rattle.std.specs.Prelude.{IfSome}
use Rattle.cost_store.specs.LabelCosts.{costs_of, AreFree}
use Rattle.near_changes.specs.Looking.{is_marked, AreTaking}
use Rattle.later_expansions.specs.Stages.{IsLater}
use Rattle.label_field.specs.LabelFields.{LabelField}
use Rattle.label_energies.specs.Energies.{labelling}
use Rattle.move_energy.specs.declared.choice.Choice.{Choice}
use Rattle.near_changes.specs.Changes.{AreStamped}
use Rattle.one_move.specs.Building.{site_values}
use Rattle.one_move.specs.Building.{HasTaken}
use Rattle.run_steps.proofs.under_way.RunUnderWay.make_expansion.Goals as goal

pub returns-clause-working : goal.returns-clause-working
returns-clause-working g c = record {
  posed = c.requires.working.posed;
  fits = record {
    sites = c.in_ok-changed.ensures.sizes.sites ∙ c.in_ok-later.ensures.sizes.sites ∙ c.requires.working.fits.sites;
    labels = c.in_ok-changed.ensures.sizes.labels ∙ c.in_ok-later.ensures.sizes.labels ∙ c.requires.working.fits.labels;
  };
  of_problem = c.in_ok-changed.ensures.of_problem;
}

pub returns-clause-stamped : goal.returns-clause-stamped
returns-clause-stamped g c = λ m meant stamped.
    let a = c.args.alpha in
    let f = c.make_later_expansion.new.labelling.at in
    let h = c.make_move.new.labelling.at in
    let same = c.in_ok-later.ensures.kept c.in_default.is in
    let S : LabelField → Type 0 = λ field. AreStamped m (labelling field.at) c.args.self.now.changes in
    let T : List Choice → Type 0 = λ choices. HasTaken a (site_values choices) f h in
    let taken = subst T (sym c.deref.ensures.value) (c.in_ok-changed.ensures.taken a refl) in
    c.note_whole.ensures f h taken m meant (c.in_ok-later.ensures.sizes.sites ∙ c.requires.working.fits.sites ∙ sym meant.sites_are)
    (c.in_ok-changed.ensures.moved m meant).2 (subst S (sym same) stamped)

pub returns-in-Some-clause-stamped : goal.returns-in-Some-clause-stamped
returns-in-Some-clause-stamped g c = λ m meant stamped.
    let a = c.args.alpha in
    let f = c.args.labelling.now.at in
    let h = c.make_later_expansion.new.labelling.at in
    let stage = c.make_later_expansion.new.space.stage in
    let T : Option Bool → Type 0 = λ later. IfSome later (λ _. AreTaking (length f) stage × HasTaken a (is_marked stage.taken.items) f h × AreFree (costs_of c.args.problem.now.label_costs)) in
    let M : Option Bool → Type 0 = λ later. IsLater m a f h (Ok later) in
    let taken = subst T c.in-Some.is c.in_ok-later.ensures.taken in
    let moved = subst M c.in-Some.is (c.in_ok-later.ensures.moved m meant stamped) in
    c.note_later.ensures f h taken.0 taken.1 m meant (c.requires.working.fits.sites ∙ sym meant.sites_are) moved.2 stamped
