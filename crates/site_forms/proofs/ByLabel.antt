-- The rises of an expansion, as they are read by its label.
use Rattle.std.proofs.Common.{◌≡◌, ◌∙◌, ◌*◌, ℕ, true, false, ℤ, pos, ◌-ℤ◌, sym}
use Rattle.label_energies.specs.Energies.{labelling}
use Rattle.move_energy.specs.BySite.{neighbour_at}
use Rattle.site_forms.specs.declared.numbers.SiteForm.{SiteForm}
use Rattle.site_forms.specs.Fields.{table_cost, IsSiteLabel}
use Rattle.site_forms.specs.Numbers.{expanded_rise, rise_at_place}
use Rattle.site_forms.proofs.ByKnown.{even_at_place}

of_labels : (form : SiteForm) (own gets keeps : ℕ) (other there : ℕ) → gets ≡ form.alpha → keeps ≡ own → there ≡ other
    → expanded_rise form own other
    ≡ pos (form.ends.now.weight * table_cost form.smooth.now true gets there) -ℤ pos (form.ends.now.weight * table_cost form.smooth.now true keeps there)
of_labels form own gets keeps other there is same at =
    λ i. pos (form.ends.now.weight * table_cost form.smooth.now true (sym is i) (sym at i)) -ℤ pos (form.ends.now.weight * table_cost form.smooth.now true (sym same i) (sym at i))

pub low_at_place : (form : SiteForm) (u place : ℕ) (z : ℤ) → form.expanding ≡ true → IsSiteLabel form.at.now (labelling form.at.now u)
    → IsSiteLabel form.at.now (labelling form.at.now (neighbour_at form.ends.now place))
    → z ≡ expanded_rise form (labelling form.at.now u) (labelling form.at.now (neighbour_at form.ends.now place)) → z ≡ rise_at_place form false u place
low_at_place form u place z expanding own other is =
    let e = form.form.by_label expanding in
    even_at_place form false u place z (form.form.numbers.mirrored e.mirrored) e.even e.weighted
    (is ∙ of_labels form _ _ _ _ _ (e.turn _ own) (e.stay _ own) (e.stay _ other))

pub high_at_place : (form : SiteForm) (u place : ℕ) (z : ℤ) → form.expanding ≡ true → IsSiteLabel form.at.now (labelling form.at.now u)
    → IsSiteLabel form.at.now (labelling form.at.now (neighbour_at form.ends.now place))
    → z ≡ expanded_rise form (labelling form.at.now u) form.alpha → z ≡ rise_at_place form true u place
high_at_place form u place z expanding own other is =
    let e = form.form.by_label expanding in
    even_at_place form true u place z (form.form.numbers.mirrored e.mirrored) e.even e.weighted
    (is ∙ of_labels form _ _ _ _ _ (e.turn _ own) (e.stay _ own) (e.turn _ other))
