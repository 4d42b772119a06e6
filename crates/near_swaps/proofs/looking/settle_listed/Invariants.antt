use Rattle.std.proofs.Common.{◌≡◌, ◌<◌, ℕ, length, get_or}
use Rattle.label_energies.specs.Energies.{labelling}
use Rattle.move_energy.specs.Choices.{choice_at, choice_of}
use Rattle.near_swaps.specs.Looking.{settled_value}
use Rattle.near_swaps.specs.Swaps.{kept_values}
use Rattle.near_swaps.proofs.Bounds.{IsToldOr}
use Rattle.near_swaps.proofs.looking.settle_listed.Given as goal

abbrev pub invariant-loop-index : goal.invariant-loop-index
invariant-loop-index l = record {
  count : length l.choices.items ≡ length l.fn.choices.items;
  each : (p : ℕ) → p < length l.at
      → IsToldOr l.choices.items p (choice_of (settled_value l.numbers l.taken l.bits l.beta (labelling l.at) p)) (choice_of (kept_values l.beta (labelling l.at) p));
  done : (k : ℕ) → k < l.index → choice_at l.choices.items (get_or l.opened k 0)
      ≡ choice_of (settled_value l.numbers l.taken l.bits l.beta (labelling l.at) (get_or l.opened k 0));
}
