use Rattle.std.proofs.Common.{◌≡◌, ◌⊎◌, ℕ, length}
use Rattle.move_energy.specs.declared.choice.Choice.TheVariants.{Zero}
use Rattle.move_energy.specs.Choices.{choice_at}
use Rattle.near_changes.specs.SideBySide.{HasZeroCode}
use Rattle.near_changes.proofs.join.join_part.Given as goal

abbrev pub invariant-loop-place : goal.invariant-loop-place
invariant-loop-place l = record {
  count : length l.choices.items ≡ length l.fn.choices.items;
  zeros : (p : ℕ) → choice_at l.choices.items p ≡ Zero → (choice_at l.fn.choices.items p ≡ Zero) ⊎ HasZeroCode l.from l.codes p;
}
