use Rattle.std.proofs.Common.{◌≡◌, ◌+◌, ◌-◌, ◌*◌, ◌≤◌, unsigned_abs}
use Rattle.label_energies.specs.Energies.{labelling}
use Rattle.move_energy.specs.BySite.{neighbours_start}
use Rattle.site_forms.specs.Forms.{rise_below}
use Rattle.site_forms.specs.Numbers.{form_of}
use Rattle.kept_labels.specs.Kept.{turned_last}
use Rattle.kept_labels.proofs.rises.rise_of.Given as goal

abbrev pub invariant-loop-place : goal.invariant-loop-place
invariant-loop-place l = record {
  small : unsigned_abs l.total ≤ 10000000 + 10000000 * (l.place - neighbours_start l.form.ends.now l.site);
  told : l.total ≡ rise_below (form_of l.form) (turned_last (labelling l.form.at.now) (labelling l.form.at.now l.site) l.site) l.site (l.place - neighbours_start l.form.ends.now l.site);
}
