use Rattle.std.proofs.Common.{◌≡◌, ◌<◌, ◌+◌, ℕ, length}
use Rattle.std.specs.Prelude.{slice_index}
use Rattle.move_energy.specs.declared.choice.Choice.TheVariants.{Zero}
use Rattle.move_energy.specs.Choices.{choice_at}
use Rattle.near_changes.proofs.join.codes_within.Given as goal

abbrev pub invariant-loop-site : goal.invariant-loop-site
invariant-loop-site l = record {
  count : l.fn.window.from + length l.codes.items ≡ l.site;
  each : (k : ℕ) → k < length l.codes.items → slice_index l.codes.items k ≡ 1 → choice_at l.fn.choices (l.fn.window.from + k) ≡ Zero;
}
