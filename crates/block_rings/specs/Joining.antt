-- Pairs of blocks joined one after another.
use Rattle.std.specs.Prelude.{◌≡◌, ◌≢◌, ℕ, ◌<◌, ◌⊎◌, min, max, Bool, true, false, ◌||◌, List, []}
use Rattle.std.specs.Prelude.{◌∷◌, ◌++◌, length}
use Rattle.std.specs.Prelude.{Some, is_some, slice_set, slice_index_or}
use Rattle.block_net.specs.Views.{CellsView, border_in}
use Rattle.block_workers.specs.declared.port.Port.{Port}
use Rattle.block_workers.specs.Ports.{IsNewPort, LeadsTo}
use Rattle.block_workers.specs.Seeing.{AreRising}
use Rattle.block_rings.specs.Joined.{port_to, IsPaired, BordersOn}

-- blocks b and c have a port to one another more, the ends of empty rings
pub record HasPair (ring b c : ℕ) (old new : List (List Port)) : Type 0 where
  pub first : Port
  pub second : Port
  pub of_first : IsNewPort c ring first
  pub of_second : IsNewPort b ring second
  pub there : LeadsTo first second
  pub back : LeadsTo second first
  pub lists : new
      ≡ slice_set (slice_set old b (slice_index_or old b [] ++ first ∷ [])) c
      (slice_index_or old c [] ++ second ∷ [])

-- whether a row says of block b that it leads to block c
abbrev pub flag : List (List Bool) → ℕ → ℕ → Bool
flag rows b c = slice_index_or (slice_index_or rows b []) c false

-- a flag for each block below `blocks`, set just where a direction of the block leads to it
pub record IsScanned (blocks : ℕ) (block : CellsView) (flags : List Bool) : Type 0 where
  pub len : length flags ≡ blocks
  pub set : (j : ℕ) → j < length block.borders → (border_in block j).to < blocks
      → slice_index_or flags (border_in block j).to false ≡ true
  pub only : (c : ℕ) → slice_index_or flags c false ≡ true → BordersOn block c

-- as many rows as blocks, of as many flags
pub record AreSquare (blocks : ℕ) (rows : List (List Bool)) : Type 0 where
  pub len : length rows ≡ blocks
  pub each : (b : ℕ) → b < blocks → length (slice_index_or rows b []) ≡ blocks

-- the flags of each block
pub record AreScanned (cells : List CellsView) (rows : List (List Bool)) : Type 0 where
  pub square : AreSquare (length cells) rows
  pub each : (b : ℕ) (d : CellsView) → b < length cells
      → IsScanned (length cells) (slice_index_or cells b d) (slice_index_or rows b [])

-- whether a direction leads from the one block to the other, or back
abbrev pub is_linked : List (List Bool) → ℕ → ℕ → Bool
is_linked rows x y = flag rows x y || flag rows y x

-- two blocks come before b and c: their pairs are in order of the upper number, then of the lower
abbrev pub ComesBefore : ℕ → ℕ → ℕ → ℕ → Type 0
ComesBefore x y b c = (max x y < c) ⊎ ((max x y ≡ c) × (min x y < b))

-- the pairs of blocks before b and c are joined: where a direction leads between two blocks, each
-- has a port to the other, and there are no other ports
pub record AreBegun (ring blocks b c : ℕ) (rows : List (List Bool))
    (lists : List (List Port)) : Type 0 where
  pub len : length lists ≡ blocks
  pub rising : (x : ℕ) → AreRising blocks (slice_index_or lists x [])
  pub fresh : (x y : ℕ) (p : Port) → port_to lists x y ≡ Some p → IsNewPort y ring p
  pub paired : (x y : ℕ) (p : Port) → port_to lists x y ≡ Some p → IsPaired p (port_to lists y x)
  pub only : (x y : ℕ) (p : Port) → port_to lists x y ≡ Some p
      → (x ≢ y) × (x < blocks) × (y < blocks) × (is_linked rows x y ≡ true)
  pub before : (x y : ℕ) (p : Port) → port_to lists x y ≡ Some p → ComesBefore x y b c
  pub led : (x y : ℕ) → x < y → y < blocks → ComesBefore x y b c → is_linked rows x y ≡ true
      → is_some (port_to lists x y) ≡ true
