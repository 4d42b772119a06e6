use Rattle.std.proofs.Common.{◌≡◌, ◌∙◌, true, refl, sym}
use Rattle.std.proofs.lemmas.List.{get_or_default}
use Rattle.move_energy.specs.declared.choice.Choice.TheVariants.{Open, Zero}
use Rattle.move_energy.specs.Choices.{choice_at, value_of}
use Rattle.near_changes.proofs.Seen.{on_ok_two, shown_taken}
use Rattle.near_changes.proofs.stage.Stage.see.Goals as goal

pub returns-then-is_open-clause-shown : goal.returns-then-is_open-clause-shown
returns-then-is_open-clause-shown c =
    let a = c.args in
    let choices = a.cut.now.choices.now in
    let now = a.self.now in
    let new = record now { taken = c.mark.new.flags; taking = c.mark.new.sites } in
    let opened : choice_at choices a.site ≡ Open = get_or_default choices a.site Zero _ c.requires.site ∙ c.is_open.ensures.0 c.if-is_open.true in
    let one : value_of choices a.cut.now.bits.now a.site ≡ true = sym c.value_at.ensures ∙ c.if-not-value_at.false in
    on_ok_two c.mark.result _ _ _ (λ too listed. shown_taken choices a.cut.now.bits.now a.site now new c.requires.site opened one too listed refl c.requires.shown)
    c.mark.ensures.marked c.mark.ensures.listed
