use Rattle.std.proofs.Common.{◌≡◌, ℕ, ◌+◌, ◌-◌, ◌*◌, ◌<◌, ◌≤◌, true, false, unsigned_abs}
use Rattle.move_energy.specs.BySite.{neighbours_start, pair_beside}
use Rattle.move_energy.specs.declared.choice.Choice.TheVariants.{Open}
use Rattle.move_energy.specs.Choices.{choice_at}
use Rattle.move_energy.specs.Ends.{decided_or, AvoidsSite}
use Rattle.site_forms.specs.Forms.{rise_below}
use Rattle.site_forms.specs.Numbers.{form_of}
use Rattle.site_forms.proofs.rises.sum_rises.Given as goal

abbrev pub invariant-loop-place : goal.invariant-loop-place
invariant-loop-place g l = record {
  least_small : unsigned_abs l.least ≤ 10000000 + 10000000 * (l.place - neighbours_start l.form.ends.now l.site);
  greatest_small : unsigned_abs l.greatest ≤ 10000000 + 10000000 * (l.place - neighbours_start l.form.ends.now l.site);
  least : l.least ≡ rise_below (form_of l.form) (decided_or l.known true) l.site (l.place - neighbours_start l.form.ends.now l.site);
  greatest : l.greatest ≡ rise_below (form_of l.form) (decided_or l.known false) l.site (l.place - neighbours_start l.form.ends.now l.site);
  alone : l.beside ≡ false → (p u : ℕ) → neighbours_start l.form.ends.now l.site ≤ p → p < l.place → u < l.site → choice_at l.known u ≡ Open
      → AvoidsSite u (pair_beside l.form.ends.now l.site p);
}
