use Rattle.std.proofs.Common.{◌≢◌, ℕ, ◌<◌, ◌≤◌, ◌-◌, length}
use Rattle.move_energy.specs.declared.choice.Choice.TheVariants.{Open}
use Rattle.move_energy.specs.Choices.{choice_at}
use Rattle.site_bounds.proofs.own_bounds.next_open.Given as goal

abbrev pub invariant-loop-site : goal.invariant-loop-site
invariant-loop-site l = record {
  on : l.from ≤ l.site;
  within : l.site ≤ length l.choices;
  closed : (u : ℕ) → l.from ≤ u → u < l.site → choice_at l.choices u ≢ Open;
}

abbrev pub decreases-loop-site : goal.decreases-loop-site
decreases-loop-site l = length l.choices - l.site
