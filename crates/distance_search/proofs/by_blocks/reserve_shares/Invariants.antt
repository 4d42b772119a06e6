use Rattle.std.specs.Prelude.{◌≡◌, ℕ, ◌<◌, length, slice_index_or}
use Rattle.block_net.specs.Views.{count}
use Rattle.block_net.specs.Whole.{no_block}
use Rattle.distance_search.specs.declared.by_blocks.Share.{Share}
use Rattle.distance_search.proofs.by_blocks.reserve_shares.Given as goal

abbrev pub invariant-loop-b : goal.invariant-loop-b
invariant-loop-b l = record {
  len : length l.shares.items ≡ l.b;
  each : (i : ℕ) (d : Share) → i < l.b → length (slice_index_or l.shares.items i d).labels ≡ count (slice_index_or l.parts.blocks.items i no_block);
}
