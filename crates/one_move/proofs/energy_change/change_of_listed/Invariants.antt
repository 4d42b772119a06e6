use Rattle.std.proofs.Common.{◌≡◌, ◌+◌, ◌*◌, ◌≤◌, ◌-ℤ◌, get_or, length, unsigned_abs}
use Rattle.move_energy.specs.BySite.{neighbours_start}
use Rattle.move_energy.specs.MoveValues.{move_value}
use Rattle.site_forms.specs.Numbers.{WhereRead}
use Rattle.one_move.specs.Building.{HasChanges}
use Rattle.one_move.specs.Turning.{turned_below}
use Rattle.one_move.proofs.energy_change.change_of_listed.Given as goal

abbrev pub invariant-loop-index : goal.invariant-loop-index
invariant-loop-index l = record {
  small : unsigned_abs l.total ≤ 10000000 * (get_or l.sites l.index (length l.form.at.now) + neighbours_start l.form.ends.now (get_or l.sites l.index (length l.form.at.now)));
  told : WhereRead l.form (λ m move f. HasChanges move l.form.at.now l.choices l.sites
      → l.total ≡ move_value m move f (turned_below l.form l.choices (get_or l.sites l.index (length l.form.at.now))) -ℤ move_value m move f (turned_below l.form l.choices 0));
}
