use Rattle.std.proofs.Common.{◌<◌, ℕ, true}
use Rattle.move_energy.specs.declared.choice.Choice.{Choice}
use Rattle.site_forms.specs.Fields.{unit_rises_at, told_in, known_place}
use Rattle.form_lists.specs.ToldRows.{AreTimes}
use Rattle.form_lists.proofs.told_rows.write_told_rows.Given as goal

abbrev pub invariant-loop-own : goal.invariant-loop-own
invariant-loop-own l = (own other : ℕ) (choice : Choice) → own < l.own → other < l.labels
    → AreTimes l.weight (unit_rises_at l.table true own other) choice (told_in l.told (known_place own other choice))
