use Rattle.std.proofs.Common.{◌≡◌, ◌+◌, ◌*◌, ◌≤◌, ℕ, ◌<◌, ℤ, pos, ◌-ℤ◌, to_z, of_z, w32, true, List, length, slice_index, subst, arith}
use Rattle.std.proofs.lemmas.Int.{ints}
use Rattle.site_forms.proofs.Entries.{small_cost}
use Rattle.site_forms.proofs.Places.{times_is}
use Rattle.site_forms.proofs.expanding.rise_beside.Goals as goal

gets_row : (list smooth : List ℕ) (own label : ℕ) → slice_index list own ≡ label → ((old : ℕ) → slice_index list old * 256 + 256 ≤ length smooth) → label * 256 + 256 ≤ length smooth
gets_row list smooth own label is rows = subst (λ (k : ℕ). k * 256 + 256 ≤ length smooth) is (rows own)

pub smooth_of-requires : goal.smooth_of-requires
smooth_of-requires c =
    let form = c.args.form.now in
    record { rows = (gets_row form.turns.now form.smooth.now c.args.own form.alpha ((form.form.by_label c.requires.expanding).turn c.args.own c.requires.own) form.form.numbers.turns_rows, c.requires.row) }

pub smooth_of-requires-2 : goal.smooth_of-requires-2
smooth_of-requires-2 c =
    let form = c.args.form.now in
    record { rows = (gets_row form.stays.now form.smooth.now c.args.own c.args.own ((form.form.by_label c.requires.expanding).stay c.args.own c.requires.own) form.form.numbers.stays_rows, c.requires.row) }

cost_read : (x : ℕ) (z : ℤ) (y : ℕ) → z ≡ pos x → x < 65536 → x ≡ y → to_z w32 (of_z w32 z) ≡ pos y
cost_read x z y is small same = omega (arith, ints, is, small, same)

pub returns-clause-value : goal.returns-clause-value
returns-clause-value c =
    let a = c.args in
    let form = a.form.now in
    let costs = form.form.numbers.costs in
    let gets = cost_read c.smooth_of.result c.from-gets.result _ c.from-gets.ensures c.smooth_of.type_inv c.smooth_of.ensures in
    let keeps = cost_read c.smooth_of-2.result c.from-keeps.result _ c.from-keeps.ensures c.smooth_of-2.type_inv c.smooth_of-2.ensures in
    (times_is form.weight form.ends.now.weight _ _ (to_z w32 (of_z w32 c.from-gets.result) -ℤ to_z w32 (of_z w32 c.from-keeps.result)) c.times.result form.flags.weight_is
    (λ i. gets i -ℤ keeps i)
    (small_cost form.smooth.now true form.alpha a.other costs) (small_cost form.smooth.now true a.own a.other costs) c.times.ensures.product c.times.ensures.small).0
