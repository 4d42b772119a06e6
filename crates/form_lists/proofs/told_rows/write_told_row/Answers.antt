use Rattle.std.proofs.Common.{◌∙◌, ◌≡◌, ◌+◌, ◌<◌, ℕ, true, sym, ap, subst, inl, inr, arith, unsigned_abs, pos, ◌*ℤ◌}
use Rattle.std.proofs.lemmas.Bool.{cases_lt}
use Rattle.std.proofs.lemmas.Int.{ints}
use Rattle.move_energy.specs.declared.rises.EndRises.{EndRises}
use Rattle.site_forms.specs.declared.by_known.ToldRises.{ToldRises}
use Rattle.site_forms.specs.Fields.{code_of, told_in, known_place, unit_rises_at}
use Rattle.form_lists.specs.ToldRows.{AreTimes}
use Rattle.site_forms.proofs.Sums.{small_passed}
use Rattle.form_lists.proofs.ToldTable.{times_of, earlier}
use Rattle.form_lists.proofs.told_rows.write_told_row.Goals as goal

pub loop-other-preserved : goal.loop-other-preserved
loop-other-preserved c =
    let a = c.args in
    let n = c.loop-other.other in
    let new = c.write_told.new.told in
    let wrote = c.write_told.ensures in
    let units = unit_rises_at a.table.now true a.own n in
    let at = c.place_told-place.ensures in
    let few : n < 64 = omega (arith, c.loop-other-test.true, c.requires.few.1) in
    let small = c.requires.small a.own n c.requires.few.0 c.loop-other-test.true in
    let got = c.unit_rises-rises.ensures in
    let rises = c.unit_rises-rises.result in
    let low_size = ap (λ (r : EndRises). unsigned_abs r.low) got in
    let high_size = ap (λ (r : EndRises). unsigned_abs r.high) got in
    let unit_low = small_passed rises.low (omega (arith, low_size, small.0)) ∙ ap (λ (r : EndRises). r.low) got in
    let unit_high = small_passed rises.high (omega (arith, high_size, small.1)) ∙ ap (λ (r : EndRises). r.high) got in
    let low = c.times-low.ensures in
    let high = c.times-high.ensures in
    record {
      each = λ other choice below. elim (cases_lt other n) [
        | inl before ↦
            let T : ToldRises → Type 0 = λ told. AreTimes a.weight (unit_rises_at a.table.now true a.own other) choice told in
            let under = earlier a.own n other choice before in
            subst T (sym (wrote.others (known_place a.own other choice) (inl (omega (arith, under, at))))) (c.loop-other.invariant.each other choice before)
        | inr behind ↦
            let same : n ≡ other = omega (arith, below, behind) in
            let stands : known_place a.own n choice ≡ c.place_told-place.result + code_of choice = omega (arith, at) in
            let T : ToldRises → Type 0 = λ told. AreTimes a.weight units choice told in
            let S : ℕ → Type 0 = λ o. AreTimes a.weight (unit_rises_at a.table.now true a.own o) choice (told_in new (known_place a.own o choice)) in
            subst S same (subst T (sym (ap (told_in new) stands ∙ wrote.each choice))
            (times_of a.weight units _ _ choice
            (small_passed c.times-low.result low.small ∙ low.product ∙ ap (λ z. pos a.weight *ℤ z) unit_low) (small_passed c.times-high.result high.small ∙ high.product ∙ ap (λ z. pos a.weight *ℤ z) unit_high)
            (omega (arith, ints, low.small)) (omega (arith, ints, high.small))))
      ];
      others = λ k far. wrote.others k (elim far [
        | inl under ↦ inl (omega (arith, under, at))
        | inr over ↦ inr (omega (arith, over, at, few))
      ]) ∙ c.loop-other.invariant.others k far;
    }
