use Rattle.std.proofs.Common.{◌≡◌, ◌<◌, ◌≤◌, ℕ, length, slice_index}
use Rattle.label_energies.specs.Energies.{labelling}
use Rattle.near_swaps.specs.Swaps.{kept_values, may_turn}
use Rattle.pseudo_bool.specs.Energies.{assignment}
use Rattle.near_swaps.proofs.looking.list_turning.Given as goal

abbrev pub invariant-loop-index : goal.invariant-loop-index
invariant-loop-index l = record {
  count : length l.list.items ≡ l.index;
  room : length l.opened ≤ l.list.cap;
  each : (k : ℕ) → k < l.index → assignment l.list.items k
      ≡ may_turn (kept_values l.beta (labelling l.at) (slice_index l.opened k)) (assignment l.bits.lower.items k) (assignment l.bits.upper.items k);
}
