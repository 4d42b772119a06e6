use Rattle.std.proofs.Common.{◌≡◌, ◌<◌, ℕ, length, get_or}
use Rattle.label_energies.specs.Energies.{labelling}
use Rattle.move_energy.specs.Choices.{choice_at, choice_of}
use Rattle.near_swaps.specs.Swaps.{kept_values}
use Rattle.near_swaps.proofs.Bounds.{IsToldOr}
use Rattle.near_swaps.proofs.looking.keep_listed.Given as goal

abbrev pub invariant-loop-index : goal.invariant-loop-index
invariant-loop-index l = record {
  count : length l.choices.items ≡ length l.fn.choices.items;
  each : (p : ℕ) → IsToldOr l.choices.items p (choice_of (kept_values l.beta (labelling l.at) p)) (choice_at l.fn.choices.items p);
  done : (k : ℕ) → k < l.index → choice_at l.choices.items (get_or l.own k 0) ≡ choice_of (kept_values l.beta (labelling l.at) (get_or l.own k 0));
}
