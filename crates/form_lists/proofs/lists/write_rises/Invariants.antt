use Rattle.std.proofs.Common.{◌<◌, ℕ, Bool}
use Rattle.site_forms.specs.Fields.{AreUnitRises, unit_rises_at}
use Rattle.form_lists.proofs.lists.write_rises.Given as goal

abbrev pub invariant-loop-own : goal.invariant-loop-own
invariant-loop-own l = (first : Bool) (own other : ℕ) → own < l.own → other < l.labels
    → AreUnitRises l.stays l.turns l.smooth first own other (unit_rises_at l.table first own other)
