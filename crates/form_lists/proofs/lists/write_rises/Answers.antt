use Rattle.std.proofs.Common.{◌<◌, ℕ, Bool, arith}
use Rattle.move_energy.specs.declared.rises.EndRises.{EndRises}
use Rattle.site_forms.specs.Fields.{AreUnitRises}
use Rattle.form_lists.proofs.Filling.{rows_more}
use Rattle.form_lists.proofs.lists.write_rises.Goals as goal

pub loop-own-preserved : goal.loop-own-preserved
loop-own-preserved c =
    let a = c.args in
    let n = c.loop-own.own in
    let few : n < 64 = omega (arith, c.loop-own-test.true, c.requires.few) in
    rows_more (λ (first : Bool) (own other : ℕ) (e : EndRises). AreUnitRises a.stays.now a.turns.now a.smooth.now first own other e)
    c.loop-own.table c.write_row.new.table c.write_row-in-loop-own.new.table n a.labels few c.requires.few c.write_row.ensures.others c.write_row-in-loop-own.ensures.others
    c.loop-own.invariant c.write_row.ensures.rises c.write_row-in-loop-own.ensures.rises
