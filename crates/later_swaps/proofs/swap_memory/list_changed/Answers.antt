use Rattle.std.proofs.Common.{◌==◌, ℕ, Bool, List, [], not, length, refl, sym, subst, arith}
use Rattle.label_energies.specs.Energies.{labelling}
use Rattle.move_energy.specs.BySite.{IsListing}
use Rattle.later_swaps.proofs.Swaps.{same_unlisted}
use Rattle.site_bounds.proofs.Skipping.{skipped}
use Rattle.later_swaps.proofs.swap_memory.list_changed.Goals as goal

pub returns-then-not-changed : goal.returns-then-not-changed
returns-then-not-changed c =
    let differ : ℕ → Bool = λ p. not (labelling c.args.before.now p == labelling c.args.after.now p) in
    subst (λ (xs : List ℕ). IsListing differ (length c.args.before.now) xs) (sym c.new-list.ensures.items)
    (skipped differ 0 (length c.args.before.now) [] (omega arith)
    (λ p from to. same_unlisted c.args.before.now c.args.after.now p (c.requires.same c.if-not-changed.true)) refl)
