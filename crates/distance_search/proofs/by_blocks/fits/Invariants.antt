use Rattle.std.specs.Prelude.{◌≡◌, ℕ, ◌<◌, length, slice_index_or}
use Rattle.block_net.specs.Views.{count}
use Rattle.block_net.specs.Whole.{no_block}
use Rattle.distance_search.specs.declared.by_blocks.Share.{Share}
use Rattle.distance_search.proofs.by_blocks.fits.Given as goal

abbrev pub invariant-each : goal.invariant-each
invariant-each l =
    (b : ℕ) (d : Share) → b < l.b → length (slice_index_or l.shares b d).labels ≡ count (slice_index_or l.parts.blocks.items b no_block)
