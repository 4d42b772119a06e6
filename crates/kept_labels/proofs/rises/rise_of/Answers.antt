use Rattle.std.proofs.Common.{◌≡◌, ◌≤◌, ◌-◌, ◌+◌, w64, to_z, arith}
use Rattle.label_energies.specs.Energies.{labelling}
use Rattle.site_forms.specs.Numbers.{form_of}
use Rattle.site_forms.proofs.Places.{few_places}
use Rattle.site_forms.proofs.Sums.{first_rise, next_rise, last_rise, own_passed, added_is, sum_fits, range_more}
use Rattle.kept_labels.specs.Kept.{turned_last}
use Rattle.kept_labels.proofs.rises.rise_of.Goals as goal

pub rise_at-total-requires : goal.rise_at-total-requires
rise_at-total-requires c = record { place = record { inside = c.requires.site; from = omega (arith, c.loop-place.auto.place, c.start-place.ensures); to = omega (arith, c.loop-place-test.true, c.start-place-end.ensures) } }

pub loop-place-init : goal.loop-place-init
loop-place-init c =
    let a = c.args in
    let form = form_of a.form.now in
    let f = labelling a.form.now.at.now in
    let own = own_passed (form.own a.site) c.from-total.result (a.form.now.form.numbers.own_small a.site) c.from-total.ensures in
    record {
      small = omega (arith, own.1);
      told = first_rise form (turned_last f (f a.site) a.site) a.site _ _ own.0 c.start-place.ensures;
    }

pub overflow_add-total : goal.overflow_add-total
overflow_add-total c =
    let form = form_of c.args.form.now in
    sum_fits (to_z w64 c.loop-place.total-bits) c.rise_at-total.result (c.loop-place.place - form.start c.args.site) c.loop-place.invariant.small c.rise_at-total.ensures.small
    (few_places c.args.form.now c.args.site c.loop-place.place c.args.form.now.form.places c.requires.site (omega (arith, c.loop-place.auto.place, c.start-place.ensures)) (omega (arith, c.loop-place-test.true, c.start-place-end.ensures)))

pub loop-place-preserved : goal.loop-place-preserved
loop-place-preserved c =
    let a = c.args in
    let form = form_of a.form.now in
    let f = labelling a.form.now.at.now in
    let i = c.loop-place.invariant in
    let e = c.rise_at-total in
    let from : form.start a.site ≤ c.loop-place.place = omega (arith, c.loop-place.auto.place, c.start-place.ensures) in
    let few = few_places c.args.form.now a.site c.loop-place.place c.args.form.now.form.places c.requires.site from (omega (arith, c.loop-place-test.true, c.start-place-end.ensures)) in
    let sum = added_is (to_z w64 c.loop-place.total-bits) e.result (c.loop-place.place - form.start a.site) i.small e.ensures.small few in
    record {
      small = range_more (to_z w64 c.loop-place.total-bits) e.result _ (form.start a.site) c.loop-place.place from i.small e.ensures.small sum;
      told = next_rise form (turned_last f (f a.site) a.site) a.site c.loop-place.place (to_z w64 c.loop-place.total-bits) e.result _ from e.ensures.rise sum i.told;
    }

pub returns-clause-rise : goal.returns-clause-rise
returns-clause-rise c = λ E told.
    let a = c.args in
    let form = form_of a.form.now in
    let f = labelling a.form.now.at.now in
    let last : c.loop-place.place ≡ form.start (a.site + 1) = omega (arith, a.form.now.form.places.rising a.site c.requires.site, c.loop-place.auto.place-end, c.loop-place-test.false, c.start-place.ensures, c.start-place-end.ensures) in
    last_rise form E (turned_last f (f a.site) a.site) a.site c.loop-place.place _ told c.requires.site last c.loop-place.invariant.told

pub returns-clause-range : goal.returns-clause-range
returns-clause-range c =
    let form = form_of c.args.form.now in
    let last : c.loop-place.place ≡ form.start (c.args.site + 1) = omega (arith, c.args.form.now.form.places.rising c.args.site c.requires.site, c.loop-place.auto.place-end, c.loop-place-test.false, c.start-place.ensures, c.start-place-end.ensures) in
    omega (arith, last, c.loop-place.invariant.small)
