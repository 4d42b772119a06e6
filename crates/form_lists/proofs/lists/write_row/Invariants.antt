use Rattle.std.proofs.Common.{◌≡◌, ◌⊎◌, ◌<◌, ◌≤◌, ℕ}
use Rattle.move_energy.specs.Rising.{entry_place}
use Rattle.site_forms.specs.Fields.{AreUnitRises, rises_in, unit_rises_at}
use Rattle.form_lists.proofs.lists.write_row.Given as goal

abbrev pub invariant-loop-other : goal.invariant-loop-other
invariant-loop-other l = record {
  rises : (other : ℕ) → other < l.other → AreUnitRises l.stays l.turns l.smooth l.first l.own other (unit_rises_at l.table l.first l.own other);
  others : (k : ℕ) → (k < entry_place l.first l.own 0) ⊎ (entry_place l.first l.own 64 ≤ k) → rises_in l.table k ≡ rises_in l.fn.table k;
}
