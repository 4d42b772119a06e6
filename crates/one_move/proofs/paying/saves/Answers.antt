use Rattle.std.proofs.Common.{◌≡◌, List, ℕ, subst, arith}
use Rattle.label_energies.specs.Energies.{labelling}
use Rattle.move_energy.specs.declared.choice.Choice.{Choice}
use Rattle.one_move.specs.Turning.{energy_rise}
use Rattle.one_move.proofs.Prices.{saves_by, summed}
use Rattle.one_move.proofs.paying.saves.Goals as goal

pub returns : goal.returns
returns g c = λ m meant.
    let a = c.args in
    let form = c.form-form in
    let numbers = c.requires.form.numbers in
    let is = form.ensures.of m a.change meant.sites_are meant.pairs_are (numbers.allowed m meant) (numbers.read m meant) in
    let F : List ℕ → Type 0 = λ f. c.change_of_all-rise.result ≡ energy_rise m a.change (labelling f) a.space.now.built.variables.choices.items in
    let K : List Choice → Type 0 = λ cs. c.change_of_all-rise.result ≡ energy_rise m a.change (labelling form.result.at.now) cs in
    let told = subst F form.ensures.at (subst K c.deref.ensures.value (c.change_of_all-rise.ensures.rise m a.change is)) in
    saves_by c.is_negative.result _ c.change_of_all-rise.result a.price _ _
    (summed c.change_of_all-rise.result _ a.price (omega (arith, c.change_of_all-rise.ensures.range)) (omega (arith, c.ranges.price.fits)) c.from.ensures) told c.is_negative.ensures
