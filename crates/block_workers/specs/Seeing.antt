-- What a block sees of its ports.
use Rattle.std.specs.Prelude.{◌≡◌, ℕ, ◌<◌, ◌==◌, nat_lt, false, cond, List, [], ◌∷◌, length, map}
use Rattle.std.specs.Prelude.{slice_index, slice_get, Some, None}
use Rattle.std.specs.List.{AllZip}
use Rattle.block_events.specs.declared.message.Message.{Message}
use Rattle.block_discharge.specs.declared.letter.Letter.{Letter}
use Rattle.block_discharge.specs.Seen.{WaysView}
use Rattle.block_workers.specs.declared.port.Port.{Port}
use Rattle.block_workers.specs.Ports.{other, letters_put, letters_taken, free, first, IsSamePort}

-- the messages of letters
abbrev pub messages : List Letter → List Message
messages letters = map (λ (l : Letter). l.message) letters

-- the numbers of the blocks that ports lead to
abbrev pub others : List Port → List ℕ
others ports = map (λ (p : Port). other p) ports

-- what is read of the first port to a block, and a default where no port leads there
abbrev pub read_at : {X : Type 0} → X → (Port → X) → List Port → ℕ → X
read_at none read [] c = none
read_at none read (p ∷ ports) c = cond (c == other p) (read p) (read_at none read ports c)

-- what was put and taken through the ports so far, and what was seen of room and fronts
abbrev pub ways_of_ports : List Port → WaysView
ways_of_ports ports = record {
  sent = read_at [] (λ (p : Port). messages (letters_put p)) ports;
  taken = read_at [] (λ (p : Port). messages (letters_taken p)) ports;
  room = read_at false (λ (p : Port). nat_lt 0 (free p)) ports;
  front = read_at None (λ (p : Port). first p) ports;
}

-- each is still the same port
abbrev pub AreSame : List Port → List Port → Type 0
AreSame old new = AllZip IsSamePort old new

-- the list says of each port at which place it stands, by the number of the block that it leads to
abbrev pub AreFound : List Port → List ℕ → Type 0
AreFound ports places =
    (k : ℕ) → k < length ports → slice_get places (slice_index (others ports) k) ≡ Some k

-- the port at the place leads to block c, and no other does
pub record IsPlaceOfPort (ports : List Port) (c k : ℕ) : Type 0 where
  pub place : k < length ports
  pub leads : slice_index (others ports) k ≡ c
  pub alone : (j : ℕ) → j < length ports → slice_index (others ports) j ≡ c → j ≡ k

-- no port leads to block c
abbrev pub LeadNotTo : List Port → ℕ → Type 0
LeadNotTo ports c = (j : ℕ) → j < length ports → ¬ (slice_index (others ports) j ≡ c)

-- the ports lead to blocks below `blocks`, by rising numbers
pub record AreRising (blocks : ℕ) (ports : List Port) : Type 0 where
  pub below : (k : ℕ) → k < length ports → slice_index (others ports) k < blocks
  pub rising : (j k : ℕ) → j < k → k < length ports
      → slice_index (others ports) j < slice_index (others ports) k
