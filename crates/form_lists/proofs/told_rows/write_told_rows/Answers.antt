use Rattle.std.proofs.Common.{◌<◌, ℕ, true, sym, subst, inl, inr, arith}
use Rattle.std.proofs.lemmas.Bool.{cases_eq}
use Rattle.site_forms.specs.declared.by_known.ToldRises.{ToldRises}
use Rattle.site_forms.specs.Fields.{told_in, known_place, unit_rises_at}
use Rattle.form_lists.specs.ToldRows.{AreTimes}
use Rattle.form_lists.proofs.ToldTable.{within_row}
use Rattle.form_lists.proofs.told_rows.write_told_rows.Goals as goal

pub loop-own-preserved : goal.loop-own-preserved
loop-own-preserved c = λ own other choice low below.
    let a = c.args in
    let n = c.loop-own.own in
    let new = c.write_told_row.new.told in
    let row = c.write_told_row.ensures in
    elim (cases_eq n own) [
      | inl same ↦
          let S : ℕ → Type 0 = λ o. AreTimes a.weight (unit_rises_at a.table.now true o other) choice (told_in new (known_place o other choice)) in
          subst S same (row.each other choice below)
      | inr off ↦
          let less : own < n = omega (arith, low, off) in
          let within = within_row own other choice (omega (arith, below, c.requires.few)) in
          let T : ToldRises → Type 0 = λ told. AreTimes a.weight (unit_rises_at a.table.now true own other) choice told in
          subst T (sym (row.others (known_place own other choice) (inl (omega (arith, within, less))))) (c.loop-own.invariant own other choice less below)
    ]
