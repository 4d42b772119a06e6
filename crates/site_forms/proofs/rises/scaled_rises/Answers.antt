use Rattle.std.proofs.Common.{true, false}
use Rattle.move_energy.specs.BySite.{neighbour_at}
use Rattle.move_energy.specs.Choices.{bit_of, choice_at}
use Rattle.label_energies.specs.Energies.{labelling}
use Rattle.site_forms.proofs.Sums.{own_passed}
use Rattle.site_forms.proofs.ByKnown.{told_there, scaled_rise_is, unit_small}
use Rattle.site_forms.proofs.rises.scaled_rises.Goals as goal

pub returns-clause-least : goal.returns-clause-least
returns-clause-least c =
    let a = c.args in
    let form = a.form.now in
    let told = told_there form 1 a.known.now a.site a.place a.head c.place_told.result c.requires.known (form.form.by_unit c.requires.scaled).table c.requires.place c.requires.head c.place_told.ensures in
    scaled_rise_is form a.known.now true a.site a.place a.weight _ c.times.result _ c.requires.scaled c.requires.weight told.least c.times.ensures.product
    (own_passed c.times.result c.from.result c.times.ensures.small c.from.ensures).0

pub returns-clause-greatest : goal.returns-clause-greatest
returns-clause-greatest c =
    let a = c.args in
    let form = a.form.now in
    let told = told_there form 1 a.known.now a.site a.place a.head c.place_told.result c.requires.known (form.form.by_unit c.requires.scaled).table c.requires.place c.requires.head c.place_told.ensures in
    scaled_rise_is form a.known.now false a.site a.place a.weight _ c.times-2.result _ c.requires.scaled c.requires.weight told.greatest c.times-2.ensures.product
    (own_passed c.times-2.result c.from-2.result c.times-2.ensures.small c.from-2.ensures).0

pub times-requires-clause-small : goal.times-requires-clause-small
times-requires-clause-small c =
    let a = c.args in
    let form = a.form.now in
    let told = told_there form 1 a.known.now a.site a.place a.head c.place_told.result c.requires.known (form.form.by_unit c.requires.scaled).table c.requires.place c.requires.head c.place_told.ensures in
    unit_small form.stays.now form.turns.now form.smooth.now (labelling form.at.now a.site) (labelling form.at.now (neighbour_at form.ends.now a.place))
    (bit_of (choice_at a.known.now (neighbour_at form.ends.now a.place)) true) _ form.form.numbers.costs told.least

pub times-requires-2-clause-small : goal.times-requires-2-clause-small
times-requires-2-clause-small c =
    let a = c.args in
    let form = a.form.now in
    let told = told_there form 1 a.known.now a.site a.place a.head c.place_told.result c.requires.known (form.form.by_unit c.requires.scaled).table c.requires.place c.requires.head c.place_told.ensures in
    unit_small form.stays.now form.turns.now form.smooth.now (labelling form.at.now a.site) (labelling form.at.now (neighbour_at form.ends.now a.place))
    (bit_of (choice_at a.known.now (neighbour_at form.ends.now a.place)) false) _ form.form.numbers.costs told.greatest

pub returns-clause-small : goal.returns-clause-small
returns-clause-small c = (
  (own_passed c.times.result c.from.result c.times.ensures.small c.from.ensures).1,
  (own_passed c.times-2.result c.from-2.result c.times-2.ensures.small c.from-2.ensures).1,
)
