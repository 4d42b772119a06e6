-- Ports of blocks to one another.
use Rattle.std.specs.Prelude.{◌≡◌, ◌≢◌, ℕ, ◌<◌, true, List, [], length, slice_index_or, ◌⊎◌}
use Rattle.std.specs.Prelude.{Option, Some, None, is_some}
use Rattle.block_net.specs.Views.{CellsView, border_in}
use Rattle.block_workers.specs.declared.port.Port.{Port}
use Rattle.block_workers.specs.Ports.{IsNewPort, LeadsTo}
use Rattle.block_workers.specs.Seeing.{read_at, AreRising}

-- the port of block b to block c, where it has one
abbrev pub port_to : List (List Port) → ℕ → ℕ → Option Port
port_to lists b c = read_at None (λ (p : Port). Some p) (slice_index_or lists b []) c

-- a direction of the block leads to block c
pub record BordersOn (block : CellsView) (c : ℕ) : Type 0 where
  pub place : ℕ
  pub below : place < length block.borders
  pub is : (border_in block place).to ≡ c

-- the port p leads to the other port, and that port leads back to it
pub record IsPaired (p : Port) (other : Option Port) : Type 0 where
  pub mate : Port
  pub is : other ≡ Some mate
  pub there : LeadsTo p mate
  pub back : LeadsTo mate p

-- of each block the ports to others: ends of empty rings, by rising numbers of the others, joined
-- in pairs, one to each other block to which a direction of the block leads or from which one leads
-- to it, and no more
pub record AreJoined (ring : ℕ) (cells : List CellsView) (lists : List (List Port)) : Type 0 where
  pub len : length lists ≡ length cells
  pub rising : (b : ℕ) → AreRising (length cells) (slice_index_or lists b [])
  pub fresh : (b c : ℕ) (p : Port) → port_to lists b c ≡ Some p → IsNewPort c ring p
  pub paired : (b c : ℕ) (p : Port) → port_to lists b c ≡ Some p → IsPaired p (port_to lists c b)
  pub led : (b j : ℕ) (d : CellsView) → b < length cells
      → j < length (slice_index_or cells b d).borders
      → (border_in (slice_index_or cells b d) j).to < length cells
      → ¬ ((border_in (slice_index_or cells b d) j).to ≡ b)
      → is_some (port_to lists b (border_in (slice_index_or cells b d) j).to) ≡ true
  pub only : (b c : ℕ) (p : Port) (d e : CellsView) → port_to lists b c ≡ Some p
      → (b ≢ c) × (BordersOn (slice_index_or cells b d) c ⊎ BordersOn (slice_index_or cells c e) b)
