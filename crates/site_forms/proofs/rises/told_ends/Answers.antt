use Rattle.std.proofs.Common.{◌∙◌, ◌≡◌, ◌+◌, true, false, ap, arith, unsigned_abs}
use Rattle.label_energies.specs.Energies.{labelling}
use Rattle.move_energy.specs.declared.choice.Choice.TheVariants.{Zero, One}
use Rattle.move_energy.specs.BySite.{neighbour_at}
use Rattle.site_forms.specs.Fields.{told_in, known_place}
use Rattle.site_forms.proofs.Sums.{small_passed}
use Rattle.site_forms.proofs.ByKnown.{told_where, told_at_place}
use Rattle.site_forms.proofs.rises.told_ends.Goals as goal

pub returns : goal.returns
returns c =
    let a = c.args in
    let form = a.form.now in
    let own = labelling form.at.now a.site in
    let there = neighbour_at form.ends.now a.place in
    let at = c.place_told-zero.result in
    let first : at ≡ known_place own (labelling form.at.now there) Zero = c.place_told-zero.ensures ∙ ap (λ h. known_place own (labelling form.at.now h) Zero) c.requires.head in
    let next : at + 1 ≡ known_place own (labelling form.at.now there) One = omega (arith, first) in
    let zero = told_where form form.ends.now.weight Zero a.site a.place at (form.form.by_known c.requires.uniform).table c.requires.place first in
    let one = told_where form form.ends.now.weight One a.site a.place (at + 1) (form.form.by_known c.requires.uniform).table c.requires.place next in
    let low = small_passed (told_in form.told.now at).least zero.small.0 in
    let high = small_passed (told_in form.told.now (at + 1)).least one.small.0 in
    let low_size = ap unsigned_abs low in
    let high_size = ap unsigned_abs high in
    let uniform = form.form.by_known c.requires.uniform in
    record {
      low = told_at_place form false a.site a.place _ uniform (low ∙ zero.least);
      high = told_at_place form true a.site a.place _ uniform (high ∙ one.least);
      low_small = omega (arith, low_size, zero.small.0);
      high_small = omega (arith, high_size, one.small.0);
    }
