use Rattle.std.specs.Prelude.{ℕ, ◌<◌, IsTrue, slice_index_or}
use Rattle.distance_search.specs.declared.by_blocks.Share.{Share}
use Rattle.distance_search.proofs.by_blocks.all_exact.Given as goal

abbrev pub invariant-loop-share : goal.invariant-loop-share
invariant-loop-share l = (b : ℕ) (d : Share) → b < l.share-index → IsTrue (slice_index_or l.shares b d).is_exact
