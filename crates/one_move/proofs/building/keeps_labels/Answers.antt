use Rattle.std.proofs.Common.{ℕ, List, IsTrue, subst}
use Rattle.label_energies.specs.declared.change.Move.TheVariants.{Expand}
use Rattle.label_energies.specs.Energies.{labelling}
use Rattle.kept_labels.specs.Kept.{AreLabelsKept}
use Rattle.one_move.proofs.building.keeps_labels.Goals as goal

pub returns-clause-kept : goal.returns-clause-kept
returns-clause-kept g c = λ m meant are allowed.
    let form = c.form-form in
    let is = form.ensures.of m (Expand c.args.alpha) meant.sites_are meant.pairs_are allowed (c.in_ok-read.ensures.read m meant) in
    let K : List ℕ → Type 0 = λ f. (IsTrue c.are_kept.result → AreLabelsKept m c.args.alpha (labelling f)) × (AreLabelsKept m c.args.alpha (labelling f) → IsTrue c.are_kept.result) in
    subst K form.ensures.at (c.are_kept.ensures m is are)
