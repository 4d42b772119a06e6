use Rattle.std.proofs.Common.{◌≡◌, ℕ, ◌≤◌, ◌-◌, ◌+◌, w64, to_z, true, false, sym, subst, inl, inr, arith}
use Rattle.std.proofs.lemmas.Bool.{cases_eq}
use Rattle.move_energy.specs.BySite.{pair_beside}
use Rattle.move_energy.specs.Ends.{decided_or, AvoidsSite}
use Rattle.site_forms.proofs.Sums.{first_rise, next_rise, last_rise, own_passed, added_is, sum_fits, range_more}
use Rattle.site_forms.specs.Numbers.{form_of}
use Rattle.site_forms.proofs.Places.{few_places}
use Rattle.site_forms.proofs.rises.sum_rises.Goals as goal

pub rises_at-rises-requires-clause-place : goal.rises_at-rises-requires-clause-place
rises_at-rises-requires-clause-place g c = record { inside = c.requires.site; from = omega (arith, c.loop-place.auto.place, c.start-place.ensures); to = omega (arith, c.loop-place-test.true, c.start-place-end.ensures) }

pub loop-place-init : goal.loop-place-init
loop-place-init g c =
    let a = c.args in
    let form = form_of a.form.now in
    let own = own_passed (form.own a.site) c.from-least.result (a.form.now.form.numbers.own_small a.site) c.from-least.ensures in
    record {
      least_small = omega (arith, own.1);
      greatest_small = omega (arith, own.1);
      least = first_rise form (decided_or a.known.now true) a.site _ _ own.0 c.start-place.ensures;
      greatest = first_rise form (decided_or a.known.now false) a.site _ _ own.0 c.start-place.ensures;
      alone = λ none p u from before below opened. absurd (omega (arith, c.start-place.ensures, from, before));
    }

pub overflow_add-least : goal.overflow_add-least
overflow_add-least g c =
    let form = form_of c.args.form.now in
    sum_fits (to_z w64 c.loop-place.least-bits) c.rises_at-rises.result.least (c.loop-place.place - form.start c.args.site) c.loop-place.invariant.least_small c.rises_at-rises.ensures.small.0
    (few_places c.args.form.now c.args.site c.loop-place.place c.args.form.now.form.places c.requires.site (omega (arith, c.loop-place.auto.place, c.start-place.ensures)) (omega (arith, c.loop-place-test.true, c.start-place-end.ensures)))

pub overflow_add-greatest : goal.overflow_add-greatest
overflow_add-greatest g c =
    let form = form_of c.args.form.now in
    sum_fits (to_z w64 c.loop-place.greatest-bits) c.rises_at-rises.result.greatest (c.loop-place.place - form.start c.args.site) c.loop-place.invariant.greatest_small c.rises_at-rises.ensures.small.1
    (few_places c.args.form.now c.args.site c.loop-place.place c.args.form.now.form.places c.requires.site (omega (arith, c.loop-place.auto.place, c.start-place.ensures)) (omega (arith, c.loop-place-test.true, c.start-place-end.ensures)))

pub loop-place-preserved : goal.loop-place-preserved
loop-place-preserved g c =
    let a = c.args in
    let form = form_of a.form.now in
    let i = c.loop-place.invariant in
    let e = c.rises_at-rises in
    let from : form.start a.site ≤ c.loop-place.place = omega (arith, c.loop-place.auto.place, c.start-place.ensures) in
    let few = few_places c.args.form.now a.site c.loop-place.place c.args.form.now.form.places c.requires.site from (omega (arith, c.loop-place-test.true, c.start-place-end.ensures)) in
    let low = added_is (to_z w64 c.loop-place.least-bits) e.result.least (c.loop-place.place - form.start a.site) i.least_small e.ensures.small.0 few in
    let high = added_is (to_z w64 c.loop-place.greatest-bits) e.result.greatest (c.loop-place.place - form.start a.site) i.greatest_small e.ensures.small.1 few in
    record {
      least_small = range_more (to_z w64 c.loop-place.least-bits) e.result.least _ (form.start a.site) c.loop-place.place from i.least_small e.ensures.small.0 low;
      greatest_small = range_more (to_z w64 c.loop-place.greatest-bits) e.result.greatest _ (form.start a.site) c.loop-place.place from i.greatest_small e.ensures.small.1 high;
      least = next_rise form (decided_or a.known.now true) a.site c.loop-place.place (to_z w64 c.loop-place.least-bits) e.result.least _ from e.ensures.least low i.least;
      greatest = next_rise form (decided_or a.known.now false) a.site c.loop-place.place (to_z w64 c.loop-place.greatest-bits) e.result.greatest _ from e.ensures.greatest high i.greatest;
      alone = λ none p u lower before below opened.
          let both = c.either-beside.ensures none in
          elim (cases_eq p c.loop-place.place) [
            | inl same ↦
                let P : ℕ → Type 0 = λ q. AvoidsSite u (pair_beside a.form.now.ends.now a.site q) in
                subst P (sym same) (c.meets_open.ensures both.1 u below opened)
            | inr other ↦ i.alone both.0 p u lower (omega (arith, before, other)) below opened
          ];
    }

pub returns : goal.returns
returns g c =
    let a = c.args in
    let form = form_of a.form.now in
    let last : c.loop-place.place ≡ form.start (a.site + 1) = omega (arith, a.form.now.form.places.rising a.site c.requires.site, c.loop-place.auto.place-end, c.loop-place-test.false, c.start-place.ensures, c.start-place-end.ensures) in
    record {
      least = λ E told. last_rise form E (decided_or a.known.now true) a.site c.loop-place.place _ told c.requires.site last c.loop-place.invariant.least;
      greatest = λ E told. last_rise form E (decided_or a.known.now false) a.site c.loop-place.place _ told c.requires.site last c.loop-place.invariant.greatest;
      range = (omega (arith, last, c.loop-place.invariant.least_small), omega (arith, last, c.loop-place.invariant.greatest_small));
      alone = λ none p u lower before below opened.
          c.loop-place.invariant.alone none p u lower (omega (arith, before, c.loop-place-test.false, c.start-place-end.ensures)) below opened;
    }

pub meets_open-requires-clause-place : goal.meets_open-requires-clause-place
meets_open-requires-clause-place g c = record { inside = c.requires.site; from = omega (arith, c.loop-place.auto.place, c.start-place.ensures); to = omega (arith, c.loop-place-test.true, c.start-place-end.ensures) }

pub head_at-head-requires : goal.head_at-head-requires
head_at-head-requires g c = record { place = record { inside = c.requires.site; from = omega (arith, c.loop-place.auto.place, c.start-place.ensures); to = omega (arith, c.loop-place-test.true, c.start-place-end.ensures) } }
