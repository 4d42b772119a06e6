-- The lists of blocks whose labels are searched side by side.
use Rattle.std.specs.Prelude.{◌≡◌, ◌↔◌, ℕ, ◌<◌, IsFalse, IsTrue, List, length, slice_index_or}
use Rattle.block_events.specs.States.{State}
use Rattle.block_net.specs.Views.{CellsView, count}
use Rattle.block_net.specs.Whole.{no_block}
use Rattle.global_relabel.specs.Local.{AreLocallyExactIn}
use Rattle.distance_search.specs.declared.by_blocks.Share.{Share}

-- each block has a list of labels, one for each of its nodes
pub record AreSharesOf (blocks : List CellsView) (shares : List Share) : Type 0 where
  pub len : length shares ≡ length blocks
  pub each : (b : ℕ) (d : Share) → b < length blocks
      → length (slice_index_or shares b d).labels ≡ count (slice_index_or blocks b no_block)

-- no block's labels changed since they were told
abbrev pub AreQuiet : List Share → Type 0
AreQuiet shares = (b : ℕ) (d : Share) → b < length shares
    → IsFalse (slice_index_or shares b d).has_news

-- each block was found exact exactly if its labels are, by what lies next to its nodes
abbrev pub AreTested : State → List ℕ → List Share → Type 0
AreTested s labels shares =
    (b : ℕ) (d : Share) → b < length shares
    → IsTrue (slice_index_or shares b d).is_exact ↔ AreLocallyExactIn s labels b
