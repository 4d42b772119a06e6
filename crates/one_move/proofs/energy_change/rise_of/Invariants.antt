use Rattle.std.proofs.Common.{◌≡◌, ◌+◌, ◌-◌, ◌*◌, ◌≤◌, unsigned_abs}
use Rattle.move_energy.specs.BySite.{neighbours_start}
use Rattle.site_forms.specs.Forms.{rise_below}
use Rattle.site_forms.specs.Numbers.{form_of}
use Rattle.one_move.specs.Turning.{turned_below}
use Rattle.one_move.proofs.energy_change.rise_of.Given as goal

abbrev pub invariant-loop-place : goal.invariant-loop-place
invariant-loop-place l = record {
  small : unsigned_abs l.total ≤ 10000000 + 10000000 * (l.place - neighbours_start l.form.ends.now l.site);
  told : l.total ≡ rise_below (form_of l.form) (turned_below l.form l.choices l.site) l.site (l.place - neighbours_start l.form.ends.now l.site);
}
