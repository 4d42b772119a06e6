use Rattle.std.proofs.Common.{◌≡◌, ◌<◌, ℕ, length}
use Rattle.move_energy.specs.declared.choice.Choice.TheVariants.{Zero}
use Rattle.move_energy.specs.Choices.{choice_at}
use Rattle.one_move.proofs.paying.clear.Given as goal

abbrev pub invariant-loop-site : goal.invariant-loop-site
invariant-loop-site l = record {
  count : length l.choices.items ≡ length l.fn.choices.items;
  zeros : (p : ℕ) → p < l.site → choice_at l.choices.items p ≡ Zero;
}
