-- Blocks in their seats, before a round and after it.
use Rattle.std.specs.Prelude.{◌≡◌, ℕ, ◌<◌, ◌≤◌, List, All, length, map, slice_index_or}
use Rattle.flow_network.specs.Limits.{node_limit}
use Rattle.block_net.specs.Views.{CellsView, count}
use Rattle.block_workers.specs.declared.port.Port.{Port}
use Rattle.block_workers.specs.declared.ends.Ends.{Ends}
use Rattle.block_workers.specs.declared.seat.Seat.{Seat}
use Rattle.block_workers.specs.Ends.{ports}
use Rattle.block_workers.specs.Workers.{AreNew}

-- the blocks of seats
abbrev pub blocks_of : List Seat → List CellsView
blocks_of seats = map (λ seat. seat.block) seats

-- their ends of the rings to one another
abbrev pub ends_of_seats : List Seat → List Ends
ends_of_seats seats = map (λ seat. seat.ends) seats

-- and of each the ports
abbrev pub ports_of : List Ends → List (List Port)
ports_of ends = map (λ end. ports end) ends

-- no block has more nodes than a net
abbrev pub AreBlocksSmall : List CellsView → Type 0
AreBlocksSmall blocks = All (λ B. count B ≤ node_limit) blocks

-- blocks before their first turn, with these ends, numbered in their order
pub record AreSeated (blocks : List CellsView) (ends : List Ends) (seats : List Seat) : Type 0 where
  pub hold : blocks_of seats ≡ blocks
  pub have : ends_of_seats seats ≡ ends
  pub numbers : (b : ℕ) (d : Seat) → b < length seats → (slice_index_or seats b d).number ≡ b
  pub nodes : (b : ℕ) (d : Seat) → b < length seats
      → (slice_index_or seats b d).nodes ≡ count (slice_index_or seats b d).block
  pub new : AreNew seats
