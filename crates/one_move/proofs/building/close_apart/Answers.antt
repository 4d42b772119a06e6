use Rattle.std.proofs.Common.{List, ℕ, ap, sym, subst}
use Rattle.label_energies.specs.Energies.{labelling}
use Rattle.move_energy.specs.declared.choice.Choice.{Choice}
use Rattle.move_energy.specs.Choices.{choice_at}
use Rattle.move_energy.specs.MoveValues.{move_value}
use Rattle.site_bounds.specs.Parts.{ArePassedChoices}
use Rattle.persistency.specs.Agreeing.{Agree}
use Rattle.one_move.proofs.building.close_apart.Goals as goal

pub returns-clause-agree : goal.returns-clause-agree
returns-clause-agree g c = λ m meant done.
    let a = c.args in
    let read = c.in_ok-open.ensures.read m meant in
    let is = c.form-form.ensures.of m a.change meant.sites_are meant.pairs_are read.0 read.1 in
    let from = c.form-form.ensures.at in
    let P : List ℕ → List Choice → Type 0 = λ f cs. ArePassedChoices m a.change (labelling f) (choice_at cs) in
    let A : List ℕ → Type 0 = λ f. Agree m.sites (move_value m a.change (labelling f)) (choice_at c.close_parts.new.known.items) in
    let passed = subst (λ f. P f c.swap.new.y.items) (sym from) (subst (P a.at.now) (sym (ap (λ (v : _). v.items) c.swap.ensures.y_after)) (c.in_ok-open.ensures.passed m meant)) in
    subst A from (c.in_ok-close_parts.ensures.agree m a.change is is.instance passed)
