-- Ports of blocks to one another, after a round.
use Rattle.std.specs.Prelude.{◌≡◌, ℕ, List, [], length, slice_index_or, sum_by, Some, None}
use Rattle.block_events.specs.declared.message.Message.{Message}
use Rattle.block_workers.specs.declared.port.Port.{Port}
use Rattle.block_workers.specs.Ports.{capacity}
use Rattle.block_workers.specs.Seeing.{ways_of_ports, read_at, AreRising}
use Rattle.block_rings.specs.Joined.{port_to, IsPaired}

-- what block b put for block c so far
abbrev pub messages_sent : List (List Port) → ℕ → ℕ → List Message
messages_sent lists b c = (ways_of_ports (slice_index_or lists b [])).sent c

-- what block b took from block c so far
abbrev pub messages_taken : List (List Port) → ℕ → ℕ → List Message
messages_taken lists b c = (ways_of_ports (slice_index_or lists b [])).taken c

-- how many letters the ring from block b to block c has room for
abbrev pub room_to : List (List Port) → ℕ → ℕ → ℕ
room_to lists b c = read_at 0 (λ (p : Port). capacity p) (slice_index_or lists b []) c

-- how many ports the blocks have
abbrev pub ports_in : List (List Port) → ℕ
ports_in lists = sum_by (λ (ports : List Port). length ports) lists

-- of each block the ports to others, by rising numbers of the others: each has one that leads back
pub record AreMated (blocks : ℕ) (lists : List (List Port)) : Type 0 where
  pub len : length lists ≡ blocks
  pub rising : (b : ℕ) → AreRising blocks (slice_index_or lists b [])
  pub paired : (b c : ℕ) (p : Port) → port_to lists b c ≡ Some p → IsPaired p (port_to lists c b)
  pub none : (b : ℕ) → port_to lists b b ≡ None
