-- A block in its place among the others, and the state that it shows there.
use Rattle.std.specs.Prelude.{◌≡◌, ℕ, ◌<◌, true, cond, ◌==◌, List, [], length}
use Rattle.block_events.specs.declared.direction.Direction.{Direction}
use Rattle.block_events.specs.declared.message.Message.{Message}
use Rattle.block_events.specs.States.{State}
use Rattle.block_net.specs.Views.{CellsView, count}
use Rattle.block_net.specs.Whole.{Whole, table, put_block}
use Rattle.block_events.specs.Effects.{state_of}
use Rattle.net_in_blocks.specs.Views.{IsLaid, IsSpot, IsRow, blocks_in}
use Rattle.block_discharge.specs.Steps.{TurnView}

-- what went through the ends of the ways of block b: on the way from b to j what it put for j, and
-- on the way from i to b what it took from i
abbrev pub log_at : ℕ → (ℕ → List Message) → (ℕ → List Message) → ℕ → ℕ → List Message
log_at b sent taken i j = cond (i == b) (sent j) (cond (j == b) (taken i) [])

abbrev pub logs_of : ℕ → ℕ → (ℕ → List Message) → (ℕ → List Message) → List (List (List Message))
logs_of n b sent taken = table n (λ i. table n (log_at b sent taken i))

-- a block stands in the stead of block b, each of its nodes is one of the net, and each of its
-- places among the directions to other blocks is that of one
pub record IsSeated (w : Whole) (b : ℕ) (B : CellsView) : Type 0 where
  pub laid : IsLaid (put_block w b B)
  pub block : b < length w.blocks
  pub labels : length B.labels ≡ count B
  pub nodes : (p : ℕ) → p < count B → (v : ℕ) × IsSpot w v b p
  pub borders : (j : ℕ) → j < length B.borders → (x : Direction) × IsRow w x true b j

-- the state of the blocks with this one in the stead of block b
abbrev pub state_with : Whole → ℕ → CellsView → List (List (List Message)) → ℕ → State
state_with w b B ways got = state_of (blocks_in (put_block w b B)) ways got

-- the state that block b shows among the others, with what it put and took as its ways
abbrev pub shown_by : Whole → ℕ → TurnView → ℕ → State
shown_by w b h got = state_with w b h.block (logs_of (length w.blocks) b h.sent h.taken) got
