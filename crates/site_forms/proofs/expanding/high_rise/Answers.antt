use Rattle.std.proofs.Common.{ℕ, refl, subst, ◌+◌, ◌*◌, ◌≤◌, length}
use Rattle.label_energies.specs.Energies.{labelling}
use Rattle.site_forms.proofs.expanding.high_rise.Goals as goal

pub rise_beside-requires-clause-row : goal.rise_beside-requires-clause-row
rise_beside-requires-clause-row c =
    let form = c.args.form.now in
    let own = labelling form.at.now c.args.site in
    subst (λ (k : ℕ). k * 256 + 256 ≤ length form.smooth.now) ((form.form.by_label c.requires.expanding).turn own (c.args.site, c.requires.site, refl)) (form.form.numbers.turns_rows own)
