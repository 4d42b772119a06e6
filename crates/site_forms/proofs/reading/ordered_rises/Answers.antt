use Rattle.std.proofs.Common.{refl, ap, ◌∙◌}
use Rattle.move_energy.specs.declared.rises.EndRises.{EndRises}
use Rattle.site_forms.proofs.Places.{times_is}
use Rattle.site_forms.proofs.Entries.{small_cost, few_label, flagged, unit_passed}
use Rattle.site_forms.proofs.reading.ordered_rises.Goals as goal

pub unit_rises-rises-requires-clause-few : goal.unit_rises-rises-requires-clause-few
unit_rises-rises-requires-clause-few g c =
    let form = c.args.form.now in
    let few = form.form.numbers.few_labels (flagged g.row.FEW c.args.form.now.few c.requires.way c.if-this-ne0.true) in
    (few_label form.at.now c.args.own few c.requires.own, few_label form.at.now c.args.other few c.requires.other)

pub returns-then-this-ne0 : goal.returns-then-this-ne0
returns-then-this-ne0 g c =
    let a = c.args in
    let form = a.form.now in
    let f = form.form.numbers in
    let rises = c.unit_rises-rises.ensures in
    let told = f.rises (flagged g.row.FEW c.args.form.now.few c.requires.way c.if-this-ne0.true) a.first a.own a.other c.requires.own c.requires.other in
    let low = times_is a.weight a.weight _ _ c.unit_rises-rises.result.low c.times.result refl
    (ap (λ (r : EndRises). r.low) rises ∙ told.low)
    (small_cost form.smooth.now a.first _ _ f.costs) (small_cost form.smooth.now a.first _ _ f.costs) c.times.ensures.product c.times.ensures.small in
    let high = times_is a.weight a.weight _ _ c.unit_rises-rises.result.high c.times-then-this-ne0.result refl
    (ap (λ (r : EndRises). r.high) rises ∙ told.high)
    (small_cost form.smooth.now a.first _ _ f.costs) (small_cost form.smooth.now a.first _ _ f.costs) c.times-then-this-ne0.ensures.product c.times-then-this-ne0.ensures.small in
    record { low = low.0; high = high.0; low_small = low.1; high_small = high.1 }

pub times-requires-then-this-ne0-clause-small : goal.times-requires-then-this-ne0-clause-small
times-requires-then-this-ne0-clause-small g c =
    let a = c.args in
    let form = a.form.now in
    let f = form.form.numbers in
    let told = f.rises (flagged g.row.FEW form.few c.requires.way c.if-this-ne0.true) a.first a.own a.other c.requires.own c.requires.other in
    unit_passed _ _ c.unit_rises-rises.result.high (ap (λ (r : EndRises). r.high) c.unit_rises-rises.ensures ∙ told.high)
    (small_cost form.smooth.now a.first _ _ f.costs) (small_cost form.smooth.now a.first _ _ f.costs)
