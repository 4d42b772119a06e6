use Rattle.std.proofs.Common.{◌∙◌, ℕ, List, length, sym, ap, subst}
use Rattle.cost_store.proofs.Meaning.{pairs_meant}
use Rattle.label_energies.specs.declared.change.Move.TheVariants.{Swap}
use Rattle.label_energies.specs.Energies.{labelling}
use Rattle.label_energies.specs.Moves.{IsReached}
use Rattle.one_move.specs.Building.{site_values}
use Rattle.later_swaps.specs.Swaps.{AreSwapsStamped}
use Rattle.later_swaps.proofs.Swaps.{settled_after}
use Rattle.run_steps.proofs.under_way.RunUnderWay.make_noted_swap.Goals as goal

pub returns-clause-stamped : goal.returns-clause-stamped
returns-clause-stamped g c = λ m meant stamped.
    let a = c.args.alpha in
    let b = c.args.beta in
    let f = labelling c.args.labelling.now.at in
    let h = labelling c.swap_labels.new.labelling.at in
    let size = c.requires.working.fits.sites ∙ sym meant.sites_are in
    let moved = c.in_ok-changed.ensures.moved m meant stamped in
    let reached = subst (λ (n : ℕ). IsReached (Swap a b) n f h) size c.in_ok-changed.ensures.made.0 in
    let noted = rw (c.as_slice.ensures.value, c.deref.ensures.value) at c.note_swap.ensures in
    noted m (ap (λ (xs : List ℕ). length xs) c.requires.before ∙ size)
    (λ keeps. settled_after m a b f h (site_values c.swap_labels.new.space.built.variables.choices.items) (pairs_meant _ _ _ m c.requires.working.posed meant) moved.4 reached
    (c.in_ok-changed.ensures.values m meant stamped) keeps)
    (subst (λ (xs : List ℕ). AreSwapsStamped m (labelling xs) c.args.self.now.swaps) (sym c.requires.before) stamped)
