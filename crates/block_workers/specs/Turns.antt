-- What turns do to a block at its worker's.
use Rattle.std.specs.Prelude.{◌≡◌, ℕ, ◌+◌, ◌*◌, ◌<◌, ◌≤◌, false}
use Rattle.block_net.specs.Views.{CellsView, count}
use Rattle.block_discharge.specs.Steps.{DoesMany, IsSure, Step, turn_view}
use Rattle.block_workers.specs.declared.ends.Ends.{Ends}
use Rattle.block_workers.specs.declared.seat.Seat.{Seat}
use Rattle.block_workers.specs.Ends.{ports}
use Rattle.block_workers.specs.Seeing.{AreSame, ways_of_ports}

-- the most events of a turn: as many as the block has nodes, plus 16
abbrev pub most : Seat → ℕ
most seat = seat.nodes + 16

-- the block with these ends, before its first turn
pub record IsNewSeat (b : ℕ) (cells : CellsView) (ends_of : Ends) (seat : Seat) : Type 0 where
  pub number : seat.number ≡ b
  pub block : seat.block ≡ cells
  pub ends : seat.ends ≡ ends_of
  pub nodes : seat.nodes ≡ count cells
  pub turn : seat.turn ≡ 0
  pub going : seat.has_ended ≡ false

-- n of the block's own events, each enabled, with just what its ports put and took
pub record Went (n : ℕ) (old new : Seat) : Type 0 where
  pub number : new.number ≡ old.number
  pub nodes : new.nodes ≡ old.nodes
  pub ends : AreSame (ports old.ends) (ports new.ends)
  pub does : DoesMany (turn_view old.block (ways_of_ports (ports old.ends))) n
      (turn_view new.block (ways_of_ports (ports new.ends)))

-- the events of so many turns: at least one where one was sure before the first
pub record HasWorkedTurns (turns : ℕ) (old new : Seat) : Type 0 where
  pub count : ℕ
  pub went : Went count old new
  pub few : count ≤ turns * most old
  pub some : (e : Step) → IsSure old.block (ways_of_ports (ports old.ends)) e → 0 < count

-- the events of one turn, or none
pub record WentOn (old new : Seat) : Type 0 where
  pub count : ℕ
  pub went : Went count old new
  pub few : count ≤ most old
