use Rattle.std.proofs.Common.{◌≡◌, ◌+◌, ◌*◌, ◌≤◌, ◌-ℤ◌, unsigned_abs}
use Rattle.move_energy.specs.BySite.{neighbours_start}
use Rattle.one_move.specs.Turning.{turned_below, TellsOver}
use Rattle.one_move.proofs.energy_change.change_of_all.Given as goal

abbrev pub invariant-loop-site : goal.invariant-loop-site
invariant-loop-site l = record {
  small : unsigned_abs l.total ≤ 10000000 * (l.site + neighbours_start l.form.ends.now l.site);
  told : TellsOver l.form (λ E. l.total ≡ E (turned_below l.form l.choices l.site) -ℤ E (turned_below l.form l.choices 0));
}
