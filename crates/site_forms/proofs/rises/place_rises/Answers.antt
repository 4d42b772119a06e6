use Rattle.std.proofs.Common.{refl, ap, sym}
use Rattle.label_energies.specs.Energies.{labelling}
use Rattle.move_energy.specs.BySite.{neighbour_at}
use Rattle.site_forms.proofs.rises.place_rises.Goals as goal

pub end_rises-requires-clause-own : goal.end_rises-requires-clause-own
end_rises-requires-clause-own g c = (c.args.site, c.requires.place.inside, refl)

pub end_rises-requires-clause-other : goal.end_rises-requires-clause-other
end_rises-requires-clause-other g c =
    let form = c.args.form.now in
    (neighbour_at form.ends.now c.args.place, form.form.places.inside c.args.site c.args.place c.requires.place.inside c.requires.place.from c.requires.place.to, ap (labelling form.at.now) (sym c.requires.head))
