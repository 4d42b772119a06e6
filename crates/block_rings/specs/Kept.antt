-- Rings that are kept for the next round.
use Rattle.std.specs.Prelude.{◌≡◌, ℕ, ◌<◌, List, length, slice_index_or}
use Rattle.std.specs.List.{remove}
use Rattle.block_workers.specs.declared.port.Port.{Port}
use Rattle.block_workers.specs.Ports.{other, letters_put, letters_taken, CanServeRound, IsPortAgain}
use Rattle.block_rings.specs.declared.pair.PortPair.{PortPair}

-- the pair is that of block b and block c, of which c has the higher number
abbrev pub IsOfBlocks : ℕ → ℕ → PortPair → Type 0
IsOfBlocks b c p = (other p.first ≡ b) × (other p.second ≡ c)

-- both rings of the pair can serve a further round
pub record CanServePair (ring : ℕ) (p : PortPair) : Type 0 where
  pub down : CanServeRound ring p.first p.second
  pub up : CanServeRound ring p.second p.first

-- the two ports are those of the pair again, first that of the lower block
pub record AreOfPair (p : PortPair) (lower higher : Port) : Type 0 where
  pub of_lower : IsPortAgain p.second lower
  pub of_higher : IsPortAgain p.first higher

-- nothing is left in either ring
pub record IsDrained (p : PortPair) : Type 0 where
  pub down : letters_put p.first ≡ letters_taken p.second
  pub up : letters_put p.second ≡ letters_taken p.first

-- a pair is that of these two blocks
pub record HasPairOf (b c : ℕ) (pairs : List PortPair) : Type 0 where
  pub place : ℕ
  pub below : place < length pairs
  pub is : (d : PortPair) → IsOfBlocks b c (slice_index_or pairs place d)

-- each pair of these two blocks can serve
abbrev pub CanEachServe : ℕ → ℕ → ℕ → List PortPair → Type 0
CanEachServe ring b c pairs = (k : ℕ) (d : PortPair) → k < length pairs
    → IsOfBlocks b c (slice_index_or pairs k d) → CanServePair ring (slice_index_or pairs k d)

-- the two ports are those of one of the pairs again
pub record AreOfKept (pairs : List PortPair) (lower higher : Port) : Type 0 where
  pub place : ℕ
  pub below : place < length pairs
  pub are : (d : PortPair) → AreOfPair (slice_index_or pairs place d) lower higher

-- the pairs without at most one, which is that of these two blocks
pub record AreRest (b c : ℕ) (old new : List PortPair) : Type 0 where
  pub place : ℕ
  pub is : (d : PortPair) → place < length old → IsOfBlocks b c (slice_index_or old place d)
  pub rest : new ≡ remove old place
