-- What exact labels tell of the end of the work.
use Rattle.std.specs.Prelude.{ℕ, ◌+◌, ◌<◌, ◌≤◌, List, slice_index}
use Rattle.block_net.specs.Views.{CellsView, count, excess_in}

-- no node of the block that has excess has a label below the top one; the labels are those of all
-- nodes, and the block's begin at the first
abbrev pub IsAtRest : CellsView → ℕ → List ℕ → Type 0
IsAtRest B first labels = (p : ℕ) → p < count B → 0 < excess_in B p
    → B.top ≤ slice_index labels (first + p)
