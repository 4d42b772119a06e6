-- Rooms on the ways, counted over the arcs.
use Rattle.std.specs.Prelude.{◌≡◌, ℕ, ◌+◌, ◌<◌, ◌≤◌, List, [], length, slice_index_or, slice_set}
use Rattle.sums.specs.Sums.{sum_below, count_if}
use Rattle.block_events.specs.Directions.{forward, backward}
use Rattle.block_events.specs.Soundness.{joins}
use Rattle.block_state.specs.AllWays.{room_at}
use Rattle.block_events.specs.Effects.{BlocksView}

abbrev pub put_room : List (List ℕ) → ℕ → ℕ → ℕ → List (List ℕ)
put_room rooms b c y = slice_set rooms b (slice_set (slice_index_or rooms b []) c y)

pub record IsSquareOf (n : ℕ) (rooms : List (List ℕ)) : Type 0 where
  pub rows : length rooms ≡ n
  pub columns : (b : ℕ) → b < n → length (slice_index_or rooms b []) ≡ n

-- how many directions of an arc lie between two blocks
abbrev pub directions_between : BlocksView → ℕ → ℕ → ℕ → ℕ
directions_between v b c k =
    count_if (joins v.net v.blocks b c (forward k)) 1
    + count_if (joins v.net v.blocks b c (backward k)) 1

-- each way between two blocks has room for the directions of the first so many arcs
pub record IsCounted (v : BlocksView) (arcs : ℕ) (rooms : List (List ℕ)) : Type 0 where
  pub square : IsSquareOf v.blocks rooms
  pub enough : (b c : ℕ) → b < v.blocks → c < v.blocks → (b ≡ c → ⊥)
      → sum_below arcs (directions_between v b c) ≤ room_at rooms b c
