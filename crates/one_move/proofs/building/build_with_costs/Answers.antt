use Rattle.std.proofs.Common.{◌∙◌, ◌<◌, ℕ, Result, sym, subst}
use Rattle.label_energies.specs.declared.change.Move.TheVariants.{Expand}
use Rattle.cost_store.proofs.Meaning.{pairs_meant}
use Rattle.move_energy.specs.declared.error.BuildError.{BuildError}
use Rattle.one_move.specs.declared.left.Built.{Built}
use Rattle.one_move.specs.Building.{IsBuiltMove}
use Rattle.one_move.proofs.Prices.{built_kept}
use Rattle.one_move.proofs.building.build_with_costs.Goals as goal

pub returns-clause-built : goal.returns-clause-built
returns-clause-built g c = λ m meant are.
    let a = c.args in
    let space = c.build_plain-left.new.space in
    let L : ℕ → Type 0 = λ k. a.alpha < k in
    let R : Result Built BuildError → Type 0 = λ r. IsBuiltMove m (Expand a.alpha) a.at.now space.built r in
    subst R (sym c.at_price.ensures)
    (built_kept m a.alpha a.at.now space.built c.build_plain-left.result c.own_price_of.result (pairs_meant _ _ _ m c.requires.asked.posed meant)
    (subst L (sym meant.labels_are) c.requires.asked.asked.move_of)
    (λ allowed. (c.in_ok-keeps_labels.ensures.kept m meant are allowed).0 c.if-not-branch.false)
    (c.own_price_of.ensures m (c.requires.asked.asked.sites ∙ sym meant.sites_are) are)
    (c.build_plain-left.ensures.built m meant))
