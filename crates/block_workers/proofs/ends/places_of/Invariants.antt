use Rattle.std.proofs.Common.{◌≡◌, ◌<◌, ℕ, Some, slice_get, slice_index, vec_len}
use Rattle.block_workers.specs.Seeing.{others}
use Rattle.block_workers.proofs.ends.places_of.Given as goal

abbrev pub invariant-loop-k : goal.invariant-loop-k
invariant-loop-k l = record {
  len : vec_len l.places ≡ l.blocks;
  next : l.next ≡ l.k;
  found : (j : ℕ) → j < l.k → slice_get l.places.items (slice_index (others l.ports.items) j) ≡ Some j;
}
