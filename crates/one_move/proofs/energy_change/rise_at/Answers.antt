use Rattle.std.proofs.Common.{◌≡◌, ◌∙◌, Bool, true, false, cond, sym, ap}
use Rattle.move_energy.specs.BySite.{neighbour_at}
use Rattle.site_forms.specs.Numbers.{rise_at_place}
use Rattle.site_forms.proofs.Places.{head_read}
use Rattle.site_forms.proofs.Sums.{own_passed}
use Rattle.one_move.specs.Turning.{turned_below}
use Rattle.one_move.proofs.energy_change.rise_at.Goals as goal

pub returns-then-value_below-clause-rise : goal.returns-then-value_below-clause-rise
returns-then-value_below-clause-rise c =
    let a = c.args in
    let form = a.form.now in
    let V = turned_below form a.choices.now a.site in
    let head = head_read form a.site a.place c.index-head.result.now c.requires.place c.index-head.ensures in
    let value : V (neighbour_at form.ends.now a.place) ≡ true = ap V head ∙ sym c.value_below.ensures ∙ c.if-value_below.true in
    (own_passed c.rises_of_place-rises.result.high c.from.result c.rises_of_place-rises.ensures.high_small c.from.ensures).0
    ∙ c.rises_of_place-rises.ensures.high ∙ sym (ap (λ (b : Bool). cond b (rise_at_place form true a.site a.place) (rise_at_place form false a.site a.place)) value)

pub returns-clause-rise : goal.returns-clause-rise
returns-clause-rise c =
    let a = c.args in
    let form = a.form.now in
    let V = turned_below form a.choices.now a.site in
    let head = head_read form a.site a.place c.index-head.result.now c.requires.place c.index-head.ensures in
    let value : V (neighbour_at form.ends.now a.place) ≡ false = ap V head ∙ sym c.value_below.ensures ∙ c.if-value_below.false in
    (own_passed c.rises_of_place-rises.result.low c.from-2.result c.rises_of_place-rises.ensures.low_small c.from-2.ensures).0
    ∙ c.rises_of_place-rises.ensures.low ∙ sym (ap (λ (b : Bool). cond b (rise_at_place form true a.site a.place) (rise_at_place form false a.site a.place)) value)
