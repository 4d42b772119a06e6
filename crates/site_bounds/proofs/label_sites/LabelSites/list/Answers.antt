use Rattle.std.proofs.Common.{List, ℕ, length, sym, subst}
use Rattle.label_energies.specs.declared.change.Move.TheVariants.{Swap}
use Rattle.label_energies.specs.Energies.{labelling}
use Rattle.move_energy.specs.BySite.{IsListing}
use Rattle.site_bounds.specs.Swapped.{can_turn}
use Rattle.site_bounds.proofs.Opening.{none_turns}
use Rattle.site_bounds.proofs.label_sites.LabelSites.list.Goals as goal

pub returns-then-alpha-beta : goal.returns-then-alpha-beta
returns-then-alpha-beta c =
    let a = c.args in
    let L : List ℕ → Type 0 = λ sites. IsListing (can_turn (Swap a.alpha a.beta) (labelling a.at.now)) (length a.at.now) sites in
    subst L (sym c.clear.ensures.items) (none_turns a.alpha a.beta (labelling a.at.now) (length a.at.now) c.if-alpha-beta.true)
