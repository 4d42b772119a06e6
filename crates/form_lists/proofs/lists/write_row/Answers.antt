use Rattle.std.proofs.Common.{◌≡◌, ◌+◌, ◌*◌, ◌<◌, ℕ, cond, length, ◌∙◌, arith}
use Rattle.move_energy.specs.declared.rises.EndRises.{EndRises}
use Rattle.site_forms.specs.Fields.{AreUnitRises}
use Rattle.form_lists.proofs.Filling.{place_within, row_more, row_others}
use Rattle.form_lists.proofs.lists.write_row.Goals as goal

pub loop-other-preserved : goal.loop-other-preserved
loop-other-preserved c =
    let a = c.args in
    let xs = c.loop-other.table in
    let n = c.loop-other.other in
    let r = c.rises_unless-rises.result in
    let base = (cond a.first 0 64 + a.own) * 64 in
    let own : a.own < 64 = omega (arith, c.requires.few.0, c.requires.few.1) in
    let below : n < 64 = omega (arith, c.loop-other-test.true, c.requires.few.1) in
    let at : c.place_in_table.result ≡ base + n = c.place_in_table.ensures in
    let within : c.place_in_table.result < length xs = omega (arith, at, place_within a.first a.own n own below, c.loop-other.auto.table, c.requires.table) in
    record {
      rises = row_more (λ (k : ℕ) (e : EndRises). AreUnitRises a.stays.now a.turns.now a.smooth.now a.first a.own k e) xs base n c.place_in_table.result r at within
          c.loop-other.invariant.rises c.rises_unless-rises.ensures;
      others = λ k far. row_others xs base n c.place_in_table.result r at below k far ∙ c.loop-other.invariant.others k far;
    }
