-- Labels that are written block by block.
use Rattle.std.specs.Prelude.{◌≡◌, ℕ, ◌<◌, ◌≤◌, true, List, length, slice_index}
use Rattle.flow_network.specs.Cut.{nodes, IsNet}
use Rattle.block_events.specs.declared.direction.Direction.{Direction}
use Rattle.block_events.specs.Directions.{IsDirection, near, far}
use Rattle.block_events.specs.States as core
use Rattle.block_events.specs.Effects.{BlocksView, told_lane}
use Rattle.block_net.specs.Views.{border_in, cells_with_known}
use Rattle.block_net.specs.Whole.{Whole, block_at, node_block, near_node_block, slot, is_outer}
use Rattle.block_net.specs.Whole.{put_block}
use Rattle.net_in_blocks.specs.Views.{blocks_in, IsLaid}

-- the direction at a place of a block, among those to other blocks
abbrev pub direction_at : Whole → ℕ → ℕ → Direction
direction_at w b j = (border_in (block_at w b) j).direction

-- that direction knows the label of its far end
abbrev pub told_at : Whole → ℕ → ℕ → Whole
told_at w b j =
    put_block w b
    (cells_with_known (block_at w b) j
    (slice_index (blocks_in w).labels (far w.net (direction_at w b j))))

-- the first so many directions from a block to others know the labels of their far ends, and
-- nothing else changed
pub record IsTelling (old now : Whole) (b many : ℕ) : Type 0 where
  pub laid : IsLaid now
  pub slots : now.slots ≡ old.slots
  pub number : length now.blocks ≡ length old.blocks
  pub borders : length (block_at now b).borders ≡ length (block_at old b).borders
  pub rest : blocks_in now ≡ record (blocks_in old) { lanes = (blocks_in now).lanes }
  pub told : (x : Direction) → IsDirection old.net x → is_outer old x ≡ true
      → near_node_block old x ≡ b
      → slot old x < many
      → core.lane_at (blocks_in now).lanes x ≡ told_lane (blocks_in old) x
  pub others : (x : Direction) → IsDirection old.net x →
      (is_outer old x ≡ true → near_node_block old x ≡ b → many ≤ slot old x)
      → core.lane_at (blocks_in now).lanes x ≡ core.lane_at (blocks_in old).lanes x

-- the nodes of a block have the labels that stand in a list, and nothing else changed
pub record HasLabelsInBlock (old now : Whole) (b : ℕ) (labels : List ℕ) : Type 0 where
  pub laid : IsLaid now
  pub rest : blocks_in now ≡ record (blocks_in old) { labels = (blocks_in now).labels }
  pub here : (v : ℕ) → v < nodes old.net → node_block old v ≡ b
      → slice_index (blocks_in now).labels v
      ≡ slice_index labels v
  pub others : (v : ℕ) → v < nodes old.net → (node_block old v ≡ b → ⊥)
      → slice_index (blocks_in now).labels v ≡ slice_index (blocks_in old).labels v

-- each direction from a block to another knows the label of its far end, and nothing else changed;
-- the net is one
pub record IsToldFrom (old new : BlocksView) (b : ℕ) : Type 0 where
  pub net : IsNet old.net
  pub rest : new ≡ record old { lanes = new.lanes }
  pub forth : length new.lanes.forth ≡ length old.net.arcs
  pub back : length new.lanes.back ≡ length old.net.arcs
  pub told : (x : Direction) → IsDirection old.net x
      → core.block_of old.net old.blocks (near old.net x) ≡ b
      → core.lane_at new.lanes x ≡ told_lane old x
  pub others : (x : Direction) → IsDirection old.net x
      → (core.block_of old.net old.blocks (near old.net x) ≡ b → ⊥)
      → core.lane_at new.lanes x ≡ core.lane_at old.lanes x

-- the nodes of a block have the labels that stand in a list, and nothing else changed
pub record IsRelabelled (old new : BlocksView) (b : ℕ) (labels : List ℕ) : Type 0 where
  pub rest : new ≡ record old { labels = new.labels }
  pub len : length new.labels ≡ nodes old.net
  pub here : (v : ℕ) → v < nodes old.net → core.block_of old.net old.blocks v ≡ b
      → slice_index new.labels v ≡ slice_index labels v
  pub others : (v : ℕ) → v < nodes old.net → (core.block_of old.net old.blocks v ≡ b → ⊥)
      → slice_index new.labels v ≡ slice_index old.labels v
