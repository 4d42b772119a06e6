use Rattle.std.proofs.Common.{◌≡◌, ◌<◌, ◌∙◌, length, refl, sym, arith}
use Rattle.std.proofs.lemmas.List.{get_or_default}
use Rattle.label_energies.specs.Energies.{labelling}
use Rattle.move_energy.specs.declared.choice.Choice.TheVariants.{Open, Zero}
use Rattle.move_energy.specs.Choices.{choice_at}
use Rattle.site_bounds.proofs.Joining.{not_untold}
use Rattle.site_bounds.proofs.Trying.{set_here, tried_passed}
use Rattle.move_energy.specs.MoveValues.{move_value}
use Rattle.site_forms.proofs.Telling.{form_tells}
use Rattle.site_bounds.proofs.sweeps.try_site.Goals as goal

pub returns-then-is_open-clause-passed : goal.returns-then-is_open-clause-passed
returns-then-is_open-clause-passed c = λ m move told was.
    let a = c.args in
    let l : a.site < length a.known.now = omega (arith, c.requires.site, c.requires.known) in
    let opened : choice_at a.known.now a.site ≡ Open = sym (get_or_default a.known.now a.site Open Zero l) ∙ c.if-is_open.ensures.0 refl in
    let rises = c.read_rises-rises in
    tried_passed m move (labelling a.form.now.at.now) a.site c.choice_told.result rises.result.least rises.result.greatest a.known.now
    told.instance l opened c.choice_told.ensures.zero c.choice_told.ensures.one
    (rises.ensures.least (move_value m move (labelling a.form.now.at.now)) (form_tells a.form.now m move told)) (rises.ensures.greatest (move_value m move (labelling a.form.now.at.now)) (form_tells a.form.now m move told)) was

pub returns-then-is_open-clause-tried : goal.returns-then-is_open-clause-tried
returns-then-is_open-clause-tried c = λ m move b told was test now.
    let a = c.args in
    let l : a.site < length a.known.now = omega (arith, c.requires.site, c.requires.known) in
    let rises = c.read_rises-rises in
    absurd (not_untold m move (labelling a.form.now.at.now) a.site b a.known.now rises.result.least rises.result.greatest
    told.instance was
    (rises.ensures.least (move_value m move (labelling a.form.now.at.now)) (form_tells a.form.now m move told)) (rises.ensures.greatest (move_value m move (labelling a.form.now.at.now)) (form_tells a.form.now m move told)) test (c.choice_told.ensures.none (sym (set_here a.known.now a.site c.choice_told.result l) ∙ now)))
