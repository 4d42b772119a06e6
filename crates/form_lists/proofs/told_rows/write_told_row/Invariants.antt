use Rattle.std.proofs.Common.{◌≡◌, ◌⊎◌, ◌+◌, ◌*◌, ◌<◌, ◌≤◌, ℕ, true}
use Rattle.move_energy.specs.declared.choice.Choice.{Choice}
use Rattle.site_forms.specs.Fields.{unit_rises_at, told_in, known_place}
use Rattle.form_lists.specs.ToldRows.{AreTimes}
use Rattle.form_lists.proofs.told_rows.write_told_row.Given as goal

abbrev pub invariant-loop-other : goal.invariant-loop-other
invariant-loop-other l = record {
  each : (other : ℕ) (choice : Choice) → other < l.other → AreTimes l.weight (unit_rises_at l.table true l.own other) choice (told_in l.told (known_place l.own other choice));
  others : (k : ℕ) → (k < l.own * 256) ⊎ (l.own * 256 + 256 ≤ k) → told_in l.told k ≡ told_in l.fn.told k;
}
