-- What a whole of blocks shows: a state.
use Rattle.std.specs.Prelude.{◌≡◌, ℕ, ◌+◌, ◌-◌, ◌*◌, ◌<◌, ◌≤◌, Bool, false, true, cond, List, []}
use Rattle.std.specs.Prelude.{length, map, slice_index, slice_index_or, slice_set, None}
use Rattle.std.specs.List.{range_with_len}
use Rattle.flow_network.specs.Cut.{Network, nodes}
use Rattle.flow_network.specs.Preflow.{arc_at}
use Rattle.flow_network.specs.Progress.{top}
use Rattle.block_events.specs.declared.lane.Lane.{Lane}
use Rattle.block_events.specs.declared.direction.Direction.{Direction}
use Rattle.block_events.specs.declared.message.Message.{Message}
use Rattle.block_events.specs.Directions.{IsDirection, forward, backward, near, far, opposite}
use Rattle.block_events.specs.States as core
use Rattle.block_net.specs.declared.lanes.InnerLane.{InnerLane}
use Rattle.block_net.specs.declared.lanes.Border.{Border}
use Rattle.block_net.specs.Views.{CellsView, count, excess_in, label_in, room_in, lane_in}
use Rattle.block_net.specs.Views.{border_in, first_lane, first_border}

-- a net in blocks: the net, the first node of each block, the place of each direction in its block
-- ("slot"), the blocks, the messages on the way, and what the sink got
pub record Whole : Type 0 where
  pub net : Network
  pub firsts : List ℕ
  pub slots : List ℕ
  pub blocks : List CellsView
  pub ways : List (List (List Message))
  pub got : ℕ

-- the same net in other blocks
abbrev pub with_blocks : Whole → List CellsView → Whole
with_blocks w blocks = record w { blocks = blocks }

-- f 0, f 1, .., f (n - 1)
abbrev pub table : {A : Type 0} → ℕ → (ℕ → A) → List A
table n f = map f (range_with_len 0 n)

abbrev pub no_block : CellsView
no_block =
    record {
      top = 0;
      excess = [];
      labels = [];
      rooms = [];
      starts = [];
      lanes = [];
      border_starts = [];
      borders = [];
    }

abbrev pub block_at : Whole → ℕ → CellsView
block_at w b = slice_index_or w.blocks b no_block

-- the block of a node
abbrev pub node_block : Whole → ℕ → ℕ
node_block w v = core.block_of w.net (length w.blocks) v

-- the block that a node lies in
abbrev pub block_with : Whole → ℕ → CellsView
block_with w v = block_at w (node_block w v)

-- the place of a node in its block
abbrev pub place : Whole → ℕ → ℕ
place w v = v - slice_index w.firsts (node_block w v)

abbrev pub near_node_block : Whole → Direction → ℕ
near_node_block w x = node_block w (near w.net x)

-- where a direction stands in the table of slots: first all that lead from an arc's tail to its
-- head
abbrev pub index_of : Network → Direction → ℕ
index_of net x = cond x.back (length net.arcs + x.arc) x.arc

-- the place of a direction in the block of its near end: among the directions within the block, or
-- among those to other blocks
abbrev pub slot : Whole → Direction → ℕ
slot w x = slice_index w.slots (index_of w.net x)

-- is it a direction to another block?
abbrev pub is_outer : Whole → Direction → Bool
is_outer w x = core.is_border w.net (length w.blocks) x

abbrev pub lane_of : Whole → Direction → InnerLane
lane_of w x = lane_in (block_at w (near_node_block w x)) (slot w x)

abbrev pub border_of : Whole → Direction → Border
border_of w x = border_in (block_at w (near_node_block w x)) (slot w x)

abbrev pub shown_lane : InnerLane → Lane
shown_lane lane = record { residual = lane.residual; known = 0; flight = None }

abbrev pub shown_border : Border → Lane
shown_border border = record
    { residual = border.residual; known = border.known; flight = border.flight }

-- what the block of its near end holds of a direction; within a block no label is known and no
-- parcel is out
abbrev pub shown_of : Whole → Direction → Lane
shown_of w x = cond (is_outer w x) (shown_border (border_of w x)) (shown_lane (lane_of w x))

-- the state that the blocks show
abbrev pub state_shown : Whole → core.State
state_shown w = record {
  net = w.net;
  blocks = length w.blocks;
  excess = table (nodes w.net) (λ v. excess_in (block_with w v) (place w v));
  labels = table (nodes w.net) (λ v. label_in (block_with w v) (place w v));
  rooms = table (nodes w.net) (λ v. room_in (block_with w v) (place w v));
  lanes = record {
    forth = table (length w.net.arcs) (λ k. shown_of w (forward k));
    back = table (length w.net.arcs) (λ k. shown_of w (backward k));
  };
  ways = w.ways;
  got = w.got;
}

-- ---- where everything stands

-- where the slots of a node's directions within its block begin, and where those to other blocks
-- do; they end where those of the next node begin
abbrev pub lanes_begin : Whole → ℕ → ℕ
lanes_begin w v = first_lane (block_with w v) (place w v)

abbrev pub lanes_end : Whole → ℕ → ℕ
lanes_end w v = first_lane (block_with w v) (place w v + 1)

abbrev pub borders_begin : Whole → ℕ → ℕ
borders_begin w v = first_border (block_with w v) (place w v)

abbrev pub borders_end : Whole → ℕ → ℕ
borders_end w v = first_border (block_with w v) (place w v + 1)

-- the block holds a direction within it in the range of its near node, with its far node and the
-- slot of the opposite direction
pub record IsInnerAt (w : Whole) (x : Direction) : Type 0 where
  pub from : lanes_begin w (near w.net x) ≤ slot w x
  pub below : slot w x < lanes_end w (near w.net x)
  pub within : slot w x < length (block_with w (near w.net x)).lanes
  pub far : (lane_of w x).far ≡ place w (far w.net x)
  pub opposite : (lane_of w x).opposite ≡ slot w (opposite x)

-- the block holds a direction to another block in the range of its near node, with its number, its
-- near node, the other block, the slot of the opposite direction there and the arc's capacity
pub record IsBorderAt (w : Whole) (x : Direction) : Type 0 where
  pub from : borders_begin w (near w.net x) ≤ slot w x
  pub below : slot w x < borders_end w (near w.net x)
  pub within : slot w x < length (block_with w (near w.net x)).borders
  pub direction : (border_of w x).direction ≡ x
  pub near : (border_of w x).near ≡ place w (near w.net x)
  pub to : (border_of w x).to ≡ node_block w (far w.net x)
  pub opposite : (border_of w x).opposite ≡ slot w (opposite x)
  pub capacity : (border_of w x).capacity ≡ (arc_at w.net x.arc).capacity

-- x is the direction of node v at a slot, within the block or to another as asked
pub record StandsAt (w : Whole) (leaves : Bool) (v j : ℕ) (x : Direction) : Type 0 where
  pub direction : IsDirection w.net x
  pub near : near w.net x ≡ v
  pub outer : is_outer w x ≡ leaves
  pub slot : slot w x ≡ j

-- each node and each direction has its place, and no two directions have one place
pub record IsPlaced (w : Whole) : Type 0 where
  pub firsts_len : length w.firsts ≡ length w.blocks
  pub slots_len : length w.slots ≡ 2 * length w.net.arcs
  pub tops : (b : ℕ) → b < length w.blocks → (block_at w b).top ≡ top w.net
  -- each node has a place in its block, counted from the block's first node
  pub node_blocks : (v : ℕ) → v < nodes w.net → node_block w v < length w.blocks
  pub firsts : (v : ℕ) → v < nodes w.net → slice_index w.firsts (node_block w v) ≤ v
  pub places : (v : ℕ) → v < nodes w.net → place w v < count (block_with w v)
  -- each direction has a slot in the range of its near end
  pub inner : (x : Direction) → IsDirection w.net x → is_outer w x ≡ false → IsInnerAt w x
  pub borders : (x : Direction) → IsDirection w.net x → is_outer w x ≡ true → IsBorderAt w x
  pub apart : (x y : Direction) → IsDirection w.net x → IsDirection w.net y
      → is_outer w x ≡ is_outer w y
      → near_node_block w x ≡ near_node_block w y → slot w x ≡ slot w y → x ≡ y
  -- and the ranges of a node hold nothing else
  pub lanes : (v j : ℕ) → v < nodes w.net → lanes_begin w v ≤ j → j < lanes_end w v
      → (x : Direction) × StandsAt w false v j x
  pub outers : (v j : ℕ) → v < nodes w.net → borders_begin w v ≤ j → j < borders_end w v
      → (x : Direction) × StandsAt w true v j x

-- v is the node at a place of a block
pub record LiesAt (w : Whole) (b p v : ℕ) : Type 0 where
  pub node : v < nodes w.net
  pub node_block : node_block w v ≡ b
  pub place : place w v ≡ p

-- each block has a label for each of its nodes, and holds no node and no direction to another block
-- but those that have their places there
pub record IsFilled (w : Whole) : Type 0 where
  pub labels : (b : ℕ) → b < length w.blocks → length (block_at w b).labels ≡ count (block_at w b)
  pub nodes : (b p : ℕ) → b < length w.blocks → p < count (block_at w b) → (v : ℕ) × LiesAt w b p v
  pub borders : (b j : ℕ) → b < length w.blocks → j < length (block_at w b).borders
      → (x : Direction) × (near_node_block w x ≡ b) × StandsAt w true (near w.net x) j x

-- another block in a block's stead
abbrev pub put_block : Whole → ℕ → CellsView → Whole
put_block w b block = record w { blocks = slice_set w.blocks b block }
