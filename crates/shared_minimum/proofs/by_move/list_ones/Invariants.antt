use Rattle.std.proofs.Common.{◌≡◌, ℕ, ◌<◌, length, slice_index}
use Rattle.std.specs.Prelude.{◌==◌}
use Rattle.pseudo_bool.specs.Energies.{assignment}
use Rattle.shared_minimum.proofs.by_move.list_ones.Given as goal

abbrev pub invariant-loop-site : goal.invariant-loop-site
invariant-loop-site l = record {
  count : length l.bits.items ≡ l.site;
  each : (p : ℕ) → p < l.site → assignment l.bits.items p ≡ (slice_index l.at p == 1);
}
