-- What the blocks of a net show of its nodes and directions.
use Rattle.std.specs.Prelude.{Bool, true, false, min, ℕ, ◌≡◌, ◌<◌, ◌≤◌, List, length, slice_index}
use Rattle.flow_network.specs.Cut.{nodes, IsNet}
use Rattle.flow_network.specs.Progress.{top}
use Rattle.block_events.specs.declared.direction.Direction.{Direction}
use Rattle.block_events.specs.Directions.{IsDirection, near, far}
use Rattle.block_events.specs.States.{lane_at, is_border}
use Rattle.block_events.specs.Effects.{BlocksView, view_of}
use Rattle.block_net.specs.Limits.{arc_limit, block_limit}
use Rattle.block_net.specs.Whole.{Whole, node_block, place, near_node_block, slot, is_outer}
use Rattle.block_net.specs.Whole.{state_shown}
use Rattle.block_net.specs.Whole.{IsPlaced, IsFilled}

-- what a whole of blocks shows, without the messages on the way
abbrev pub blocks_in : Whole → BlocksView
blocks_in w = view_of (state_shown w)

-- what is kept of the blocks of a net
pub record IsLaid (w : Whole) : Type 0 where
  pub net : IsNet w.net
  pub arcs : length w.net.arcs ≤ arc_limit
  pub some : 1 ≤ length w.blocks
  pub few : length w.blocks ≤ block_limit
  pub placed : IsPlaced w
  pub filled : IsFilled w

-- a node, its block and its place there
pub record IsSpot (w : Whole) (v b p : ℕ) : Type 0 where
  pub node : v < nodes w.net
  pub node_block : node_block w v ≡ b
  pub place : place w v ≡ p
  pub block : b < length w.blocks

-- a direction, whether it leads to another block, the block that it leaves and its slot there
pub record IsRow (w : Whole) (x : Direction) (leaves : Bool) (b j : ℕ) : Type 0 where
  pub direction : IsDirection w.net x
  pub outer : is_outer w x ≡ leaves
  pub node_block : near_node_block w x ≡ b
  pub slot : slot w x ≡ j
  pub block : b < length w.blocks

-- the lists are as long as the net says
pub record IsLong (b : BlocksView) : Type 0 where
  pub net : IsNet b.net
  pub some : 1 ≤ b.blocks
  pub few : b.blocks ≤ block_limit
  pub excess : length b.excess ≡ nodes b.net
  pub labels : length b.labels ≡ nodes b.net
  pub rooms : length b.rooms ≡ nodes b.net
  pub forth : length b.lanes.forth ≡ length b.net.arcs
  pub back : length b.lanes.back ≡ length b.net.arcs

-- a direction within a block, and one from a block to another
pub record IsInside (b : BlocksView) (x : Direction) : Type 0 where
  pub direction : IsDirection b.net x
  pub inner : is_border b.net b.blocks x ≡ false

pub record IsCrossing (b : BlocksView) (x : Direction) : Type 0 where
  pub direction : IsDirection b.net x
  pub border : is_border b.net b.blocks x ≡ true

-- the labels of a direction's ends
abbrev pub label_near : BlocksView → Direction → ℕ
label_near b x = slice_index b.labels (near b.net x)

abbrev pub label_far : BlocksView → Direction → ℕ
label_far b x = slice_index b.labels (far b.net x)

-- what a push along a direction moves: all that its near end has and the direction can carry
abbrev pub push_amount : BlocksView → Direction → ℕ
push_amount b x = min (slice_index b.excess (near b.net x)) (lane_at b.lanes x).residual

-- what a push to the sink moves
abbrev pub sink_amount : BlocksView → ℕ → ℕ
sink_amount b v = min (slice_index b.excess v) (slice_index b.rooms v)

-- a label for each node, none above the top one
pub record AreLabels (b : BlocksView) (labels : List ℕ) : Type 0 where
  pub len : length labels ≡ nodes b.net
  pub limit : (v : ℕ) → v < nodes b.net → slice_index labels v ≤ top b.net
