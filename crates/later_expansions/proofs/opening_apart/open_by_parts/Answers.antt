use Rattle.std.proofs.Common.{◌∙◌, List, ℕ, sym, subst, arith}
use Rattle.label_energies.specs.declared.change.Move.TheVariants.{Expand}
use Rattle.label_energies.specs.Energies.{labelling}
use Rattle.move_energy.specs.declared.choice.Choice.{Choice}
use Rattle.move_energy.specs.Choices.{choice_at}
use Rattle.near_changes.specs.Working.{KeepsZeros}
use Rattle.near_changes.specs.SideBySide.{AreZerosOf}
use Rattle.later_expansions.proofs.Stages.{first_zeros, label_shown, on_ok_map}
use Rattle.later_expansions.proofs.opening_apart.open_by_parts.Goals as goal

pub returns-clause-zeros : goal.returns-clause-zeros
returns-clause-zeros g c = λ m meant.
    let a = c.args.alpha in
    let at = c.args.at.now in
    let numbers = c.requires.numbers in
    let form = c.form-form.ensures.of m (Expand a) meant.sites_are meant.pairs_are (numbers.allowed m meant) (numbers.read m meant) in
    let from = c.form-form.ensures.at in
    let begun = c.choose_first.new.choices.items in
    let Z : List ℕ → List Choice → Type 0 = λ f cs. AreZerosOf m (Expand a) (labelling f) (choice_at cs) in
    let first : Z at begun = first_zeros m a at begun form.instance
    (λ q b none. label_shown (labelling at q) a (sym (c.in_ok-choose_first.ensures.each q (omega (arith, b, numbers.sites, meant.sites_are))) ∙ none)) in
    let found : Z at c.find_zeros.new.known.items = subst (λ f. Z f c.find_zeros.new.known.items) from
    (c.find_zeros.ensures.zeros m (Expand a) form form.instance (subst (λ f. Z f begun) (sym from) first)) in
    on_ok_map (KeepsZeros c.find_zeros.new.known.items c.open_fresh.new.choices.items) (Z at c.open_fresh.new.choices.items) c.open_fresh.result
    (λ kept s best p l zero.
    found s best p l
    ((kept.each p (omega (arith, l, numbers.sites, meant.sites_are, c.find_zeros.ensures.count, c.in_ok-choose_first.ensures.count))).0 zero)) c.open_fresh.ensures.zeros
