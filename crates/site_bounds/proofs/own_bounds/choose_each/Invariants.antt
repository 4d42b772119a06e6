use Rattle.std.proofs.Common.{◌≡◌, ◌≢◌, ℕ, ◌<◌}
use Rattle.std.specs.Prelude.{◌↔◌}
use Rattle.label_energies.specs.Energies.{labelling}
use Rattle.move_energy.specs.declared.choice.Choice.TheVariants.{Open, One}
use Rattle.move_energy.specs.Choices.{choice_at, Changes}
use Rattle.site_bounds.proofs.own_bounds.choose_each.Given as goal

abbrev pub invariant-loop-site : goal.invariant-loop-site
invariant-loop-site l = record {
  opened : (p : ℕ) → p < l.site → (choice_at l.choices p ≡ Open ↔ Changes l.change (labelling l.at p));
  none : (p : ℕ) → p < l.site → choice_at l.choices p ≢ One;
}
