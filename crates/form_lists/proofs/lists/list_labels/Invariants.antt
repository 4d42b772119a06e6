use Rattle.std.proofs.Common.{◌≡◌, ◌<◌, ◌≤◌, ℕ, length, slice_index}
use Rattle.label_energies.specs.Moves.{label_after}
use Rattle.form_lists.proofs.lists.list_labels.Given as goal

abbrev pub invariant-loop-label : goal.invariant-loop-label
invariant-loop-label l = record {
  count : length l.list.items ≡ 256;
  each : (old : ℕ) → old < l.label → slice_index l.list.items old ≡ label_after l.change old l.bit;
  rest : (old : ℕ) → l.label ≤ old → slice_index l.list.items old ≡ 0;
}
