-- How many events a round has, and how many messages it leaves.
use Rattle.std.specs.Prelude.{ℕ, ◌+◌, ◌*◌, ◌<◌, ◌≤◌, ◌==◌, length, sum_by}
use Rattle.sums.specs.Sums.{sum_below, count_if}
use Rattle.flow_network.specs.Cut.{nodes}
use Rattle.block_events.specs.States.{State, way_at}
use Rattle.block_events.specs.Rounds.{RoundOf, block_of_node}

-- how many nodes lie in block b
abbrev pub nodes_in : State → ℕ → ℕ
nodes_in s b = sum_below (nodes s.net) (λ v. count_if (block_of_node s v == b) 1)

-- no block has more than m nodes
abbrev pub AreBlocksOf : ℕ → State → Type 0
AreBlocksOf m s = (b : ℕ) → b < s.blocks → nodes_in s b ≤ m

-- a round of a free turn of each block and so many turns more, of all blocks together: a turn has
-- at most 16 events more than its block has nodes
pub record IsShortRound (turns : ℕ) (old new : State) : Type 0 where
  pub round : RoundOf old new
  pub few : (m : ℕ) → AreBlocksOf m old
      → sum_by (λ history. length history) round.histories ≤ (old.blocks + turns) * (m + 16)

-- no more than so many messages are on the way from one block to another
abbrev pub HasFewOnTheWay : ℕ → State → Type 0
HasFewOnTheWay ring s = (b c : ℕ) → b < s.blocks → c < s.blocks → length (way_at s.ways b c) ≤ ring
