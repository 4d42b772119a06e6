-- What a worker does to its blocks.
use Rattle.std.specs.Prelude.{◌≡◌, ℕ, ◌+◌, ◌*◌, ◌<◌, ◌≤◌, List, length, slice_index_or, sum_by}
use Rattle.block_discharge.specs.Steps.{IsSure, Step}
use Rattle.block_workers.specs.declared.seat.Seat.{Seat}
use Rattle.block_workers.specs.Ends.{ports}
use Rattle.block_workers.specs.Seeing.{ways_of_ports}
use Rattle.block_workers.specs.Turns.{Went, most}

-- how many turns the blocks drew
abbrev pub turns_of : List Seat → ℕ
turns_of seats = sum_by (λ (seat : Seat). seat.turn) seats

-- no turn was drawn
abbrev pub AreNew : List Seat → Type 0
AreNew seats = (i : ℕ) (d : Seat) → i < length seats → (slice_index_or seats i d).turn ≡ 0

-- the events of the turns that were drawn meanwhile
pub record HasAdvanced (old new : Seat) : Type 0 where
  pub count : ℕ
  pub went : Went count old new
  pub few : count + old.turn * most old ≤ new.turn * most old

-- the events of turn 0, which is free, and of the turns that were drawn: at least one where one was
-- sure at the beginning
pub record HasWorked (old new : Seat) : Type 0 where
  pub count : ℕ
  pub went : Went count old new
  pub few : count ≤ (new.turn + 1) * most old
  pub some : (e : Step) → IsSure old.block (ways_of_ports (ports old.ends)) e → 0 < count

pub record AllAdvanced (old new : List Seat) : Type 0 where
  pub seats : length new ≡ length old
  pub each : (i : ℕ) (d : Seat) → i < length old
      → HasAdvanced (slice_index_or old i d) (slice_index_or new i d)

pub record AllWorked (old new : List Seat) : Type 0 where
  pub seats : length new ≡ length old
  pub each : (i : ℕ) (d : Seat) → i < length old
      → HasWorked (slice_index_or old i d) (slice_index_or new i d)
