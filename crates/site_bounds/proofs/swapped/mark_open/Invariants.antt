use Rattle.std.proofs.Common.{◌≡◌, ◌≢◌, ◌<◌, ℕ, length, get_or}
use Rattle.move_energy.specs.declared.choice.Choice.TheVariants.{Open}
use Rattle.move_energy.specs.Choices.{choice_at}
use Rattle.site_bounds.proofs.swapped.mark_open.Given as goal

abbrev pub invariant-loop-place : goal.invariant-loop-place
invariant-loop-place l = record {
  count : length l.choices.items ≡ length l.fn.choices.items;
  opened : (k : ℕ) → k < l.place → choice_at l.choices.items (get_or l.sites k 0) ≡ Open;
  others : (p : ℕ) → ((k : ℕ) → k < l.place → get_or l.sites k 0 ≢ p) → choice_at l.choices.items p ≡ choice_at l.fn.choices.items p;
}
