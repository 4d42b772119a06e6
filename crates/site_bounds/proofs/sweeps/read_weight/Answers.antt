use Rattle.std.proofs.Common.{◌+◌, ◌≤◌, ◌∙◌, arith}
use Rattle.label_energies.specs.Energies.{labelling}
use Rattle.move_energy.specs.BySite.{degree}
use Rattle.move_energy.specs.MoveValues.{move_value}
use Rattle.site_forms.proofs.Telling.{form_tells}
use Rattle.move_energy.proofs.SiteSums.{sum_passed}
use Rattle.site_bounds.proofs.Whole.{weight_is}
use Rattle.site_bounds.proofs.sweeps.read_weight.Goals as goal

pub returns-clause-weight : goal.returns-clause-weight
returns-clause-weight c = λ m move told is.
    let a = c.args in
    let form = a.form.now.form in
    let within = form.places.within (a.site + 1) (omega (arith, c.requires.site)) in
    let few : degree a.form.now.ends.now a.site ≤ 8388608 = omega (arith, within, form.places.few_places) in
    sum_passed c.read_rises.result.greatest (degree a.form.now.ends.now a.site) c.read_rises.ensures.range few
    ∙ c.read_rises.ensures.greatest (move_value m move (labelling a.form.now.at.now)) (form_tells a.form.now m move told)
    ∙ weight_is m move (labelling a.form.now.at.now) a.known.now a.site is c.requires.opened
