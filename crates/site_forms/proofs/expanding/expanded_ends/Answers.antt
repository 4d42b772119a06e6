use Rattle.std.proofs.Common.{ℕ, refl, ap, sym, ◌∙◌, subst, ◌+◌, ◌*◌, ◌≤◌, length, unsigned_abs, arith}
use Rattle.label_energies.specs.Energies.{labelling}
use Rattle.move_energy.specs.BySite.{neighbour_at}
use Rattle.site_forms.specs.Fields.{IsSiteLabel}
use Rattle.site_forms.specs.Numbers.{expanded_rise}
use Rattle.site_forms.proofs.ByLabel.{low_at_place, high_at_place}
use Rattle.site_forms.proofs.Sums.{small_passed}
use Rattle.site_forms.proofs.expanding.expanded_ends.Goals as goal

pub rise_beside-requires-clause-row : goal.rise_beside-requires-clause-row
rise_beside-requires-clause-row c =
    let a = c.args in
    let form = a.form.now in
    let there = neighbour_at form.ends.now a.place in
    let inside = form.form.places.inside a.site a.place c.requires.place.inside c.requires.place.from c.requires.place.to in
    let other = labelling form.at.now there in
    subst (λ (k : ℕ). labelling form.at.now k * 256 + 256 ≤ length form.smooth.now) (sym c.requires.head)
    (subst (λ (k : ℕ). k * 256 + 256 ≤ length form.smooth.now) ((form.form.by_label c.requires.expanding).stay other (there, inside, refl)) (form.form.numbers.stays_rows other))

pub returns : goal.returns
returns c =
    let a = c.args in
    let form = a.form.now in
    let there = neighbour_at form.ends.now a.place in
    let inside = form.form.places.inside a.site a.place c.requires.place.inside c.requires.place.from c.requires.place.to in
    let own : IsSiteLabel form.at.now (labelling form.at.now a.site) = (a.site, c.requires.place.inside, refl) in
    let other : IsSiteLabel form.at.now (labelling form.at.now there) = (there, inside, refl) in
    let low = small_passed c.rise_beside.result c.rise_beside.ensures.small in
    let high = small_passed a.high c.requires.high.small in
    let low_size = ap unsigned_abs low in
    let high_size = ap unsigned_abs high in
    record {
      low = low_at_place form a.site a.place _ c.requires.expanding own other (low ∙ c.rise_beside.ensures.value ∙ ap (λ k. expanded_rise form (labelling form.at.now a.site) (labelling form.at.now k)) c.requires.head);
      high = high_at_place form a.site a.place _ c.requires.expanding own other (high ∙ c.requires.high.value c.requires.expanding);
      low_small = omega (arith, low_size, c.rise_beside.ensures.small);
      high_small = omega (arith, high_size, c.requires.high.small);
    }
