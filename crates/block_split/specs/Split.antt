-- How a net is split into blocks.
use Rattle.std.specs.Prelude.{◌≡◌, ℕ, ◌+◌, ◌-◌, ◌*◌, ◌/◌, ◌<◌, ◌≤◌, Bool, true, false, not, cond}
use Rattle.std.specs.Prelude.{nat_lt, List, [], drop, length, map, replicate, slice_index}
use Rattle.std.specs.Prelude.{slice_range, ◌==◌, None}
use Rattle.std.specs.List.{position_or_len}
use Rattle.flow_network.specs.Cut.{Network, nodes}
use Rattle.flow_network.specs.Preflow.{arc_at}
use Rattle.flow_network.specs.Progress.{top}
use Rattle.counting_sort.specs.Grouping.{count_below, rank}
use Rattle.block_events.specs.declared.direction.Direction.{Direction}
use Rattle.block_events.specs.Directions.{IsDirection, near, far, opposite}
use Rattle.block_events.specs.States.{block_of, near_block, far_block, is_border}
use Rattle.block_events.specs.Soundness.{first_residual, opening_state}
use Rattle.block_net.specs.declared.lanes.InnerLane.{InnerLane}
use Rattle.block_net.specs.declared.lanes.Border.{Border}
use Rattle.block_net.specs.Limits.{arc_limit, block_limit}
use Rattle.block_net.specs.Views.{CellsView}
use Rattle.block_net.specs.Whole.{Whole, table, index_of, state_shown, IsPlaced, IsFilled}
use Rattle.block_split.specs.declared.parts.Parts.{Parts}

-- the net can be split into so many blocks
pub record CanSplit (net : Network) (blocks : ℕ) : Type 0 where
  pub arcs : length net.arcs ≤ arc_limit
  pub some : 1 ≤ blocks
  pub few : blocks ≤ block_limit

-- how many directions
abbrev pub directions : Network → ℕ
directions net = 2 * length net.arcs

-- the direction at an index of the table of slots
abbrev pub slot_direction : ℕ → ℕ → Direction
slot_direction arcs i = record
    { arc = cond (nat_lt i arcs) i (i - arcs); back = not (nat_lt i arcs) }

abbrev pub direction_in : Network → ℕ → Direction
direction_in net i = slot_direction (length net.arcs) i

-- the first of n nodes in a block: the least v with v * blocks / n at least b
abbrev pub first_node : ℕ → ℕ → ℕ → ℕ
first_node n blocks b = (b * n + (blocks - 1)) / blocks

-- the block of each node
abbrev pub node_blocks_made : Network → ℕ → List ℕ
node_blocks_made net blocks = table (nodes net) (block_of net blocks)

-- what a direction is grouped by: the node that it leaves, and where it leads to another block that
-- node's number after those of all nodes
abbrev pub key : Network → ℕ → Direction → ℕ
key net blocks x = cond (is_border net blocks x) (nodes net + near net x) (near net x)

-- indices of directions by the nodes that they leave: those of node v at the places starts v to
-- starts (v + 1)
pub record Rows : Type 0 where
  pub starts : List ℕ
  pub places : List ℕ

abbrev pub rows_of : List ℕ → List ℕ → Rows
rows_of starts places = record { starts = starts; places = places }

-- the directions, as indices of the table of slots, grouped by their keys, and the slot of each:
-- its place among those of its kind, within the block of the node that it leaves or to others
pub record ByNode : Type 0 where
  pub starts : List ℕ
  pub places : List ℕ
  pub slots : List ℕ

-- of all directions grouped by their keys, those within blocks
abbrev pub inner_rows : ByNode → Rows
inner_rows rows = rows_of rows.starts rows.places

-- and those to other blocks, where there are so many nodes
abbrev pub outer_rows : ℕ → ByNode → Rows
outer_rows n rows = rows_of (drop n rows.starts) rows.places

-- where the row of a node begins, and the direction at a place of the rows
abbrev pub row_start : Rows → ℕ → ℕ
row_start rows v = slice_index rows.starts v

abbrev pub row_direction : Network → Rows → ℕ → Direction
row_direction net rows p = direction_in net (slice_index rows.places p)

-- the row of each node has the directions that leave it: of all directions those that lead to
-- another block, or those that do not, as asked
pub record AreNodeRows (net : Network) (blocks : ℕ) (leaves : Bool) (rows : Rows) : Type 0 where
  pub starts_len : nodes net < length rows.starts
  pub places_len : length rows.places ≡ directions net
  pub ordered : (v : ℕ) → v < nodes net → row_start rows v ≤ row_start rows (v + 1)
  pub within : (v : ℕ) → v ≤ nodes net → row_start rows v ≤ directions net
  -- what stands in the row of a node leaves it, and is as asked
  pub small : (v p : ℕ) → v < nodes net → row_start rows v ≤ p → p < row_start rows (v + 1)
      → slice_index rows.places p < directions net
  pub node : (v p : ℕ) → v < nodes net → row_start rows v ≤ p → p < row_start rows (v + 1)
      → near net (row_direction net rows p) ≡ v
  pub outer : (v p : ℕ) → v < nodes net → row_start rows v ≤ p → p < row_start rows (v + 1)
      → is_border net blocks (row_direction net rows p) ≡ leaves
  -- each such direction stands in the row of its near end, at one place
  pub found : (x : Direction) → IsDirection net x → is_border net blocks x ≡ leaves
      → (p : ℕ) × (row_start rows (near net x) ≤ p) × (p < row_start rows (near net x + 1))
      × (slice_index rows.places p ≡ index_of net x)
  pub apart : (p q : ℕ) → row_start rows 0 ≤ p → p < row_start rows (nodes net)
      → row_start rows 0 ≤ q → q < row_start rows (nodes net)
      → slice_index rows.places p ≡ slice_index rows.places q → p ≡ q

-- where the rows of a block begin
abbrev pub base_of : Network → ℕ → Rows → ℕ → ℕ
base_of net blocks rows b = row_start rows (first_node (nodes net) blocks b)

-- the slot of the direction that stands at a place of the rows: its place among those of its block
abbrev pub slot_at : Network → ℕ → Rows → ℕ → ℕ
slot_at net blocks rows p =
    p - base_of net blocks rows (near_block net blocks (row_direction net rows p))

-- the table has the slot of each direction of the rows
abbrev pub HasSlots : Network → ℕ → Rows → List ℕ → Type 0
HasSlots net blocks rows slots =
    (p : ℕ) → row_start rows 0 ≤ p → p < row_start rows (nodes net)
    → slice_index slots (slice_index rows.places p) ≡ slot_at net blocks rows p

-- the directions within blocks and those between blocks, each grouped by its near node, and all
-- slots
pub record AreGrouped (net : Network) (blocks : ℕ) (rows : ByNode) : Type 0 where
  pub inner : AreNodeRows net blocks false (inner_rows rows)
  pub outer : AreNodeRows net blocks true (outer_rows (nodes net) rows)
  pub slots_len : length rows.slots ≡ directions net
  pub inner_slots : HasSlots net blocks (inner_rows rows) rows.slots
  pub outer_slots : HasSlots net blocks (outer_rows (nodes net) rows) rows.slots

-- ---- the directions of a net in order

-- what each direction is grouped by
abbrev pub keys_made : Network → ℕ → List ℕ
keys_made net blocks = table (directions net) (λ i. key net blocks (direction_in net i))

-- where each direction comes in the order of the keys
abbrev pub ranks_made : Network → ℕ → List ℕ
ranks_made net blocks = table (directions net) (rank (keys_made net blocks))

-- where the directions of each key begin
abbrev pub starts_made : Network → ℕ → List ℕ
starts_made net blocks = table (2 * nodes net + 1) (λ v. count_below v (keys_made net blocks))

-- where the directions begin that leave the block of a direction's near node, and lead to another
-- block just as it does
abbrev pub base_for : Network → ℕ → Direction → ℕ
base_for net blocks x =
    slice_index (starts_made net blocks)
    (cond (is_border net blocks x) (nodes net) 0
    + first_node (nodes net) blocks (near_block net blocks x))

-- the directions of a net in blocks in the order of their keys: at each place the direction that
-- has it as its rank
unfoldable pub rows_made : Network → ℕ → ByNode
rows_made net blocks = record {
  starts = starts_made net blocks;
  places = table (directions net) (λ p. position_or_len (λ r. r == p) (ranks_made net blocks));
  slots = table (directions net)
      (λ i. slice_index (ranks_made net blocks) i - base_for net blocks (direction_in net i));
}

-- ---- a block

-- the starts of the nodes from one on to another, counted from the first
abbrev pub starts_from : List ℕ → ℕ → ℕ → List ℕ
starts_from starts first next =
    table (next - first + 1) (λ i. slice_index starts (first + i) - slice_index starts first)

-- a direction within a block, by the block's first node and the slot of the opposite direction
abbrev pub lane_by : Network → ℕ → ℕ → Direction → InnerLane
lane_by net first opposite x = record {
  residual = first_residual net x;
  far = far net x - first;
  opposite = opposite;
}

-- a direction to another block, by the first node of its own, the number of the other, and the slot
-- of the opposite direction
abbrev pub border_by : Network → ℕ → ℕ → ℕ → Direction → Border
border_by net first to opposite x = record {
  direction = x;
  near = near net x - first;
  to = to;
  opposite = opposite;
  capacity = (arc_at net x.arc).capacity;
  residual = first_residual net x;
  known = 0;
  flight = None;
}

-- what a table of all directions has at one
abbrev pub entry_of : Network → List ℕ → Direction → ℕ
entry_of net table x = slice_index table (index_of net x)

abbrev pub lane_made : Network → List ℕ → ℕ → Direction → InnerLane
lane_made net slots first x = lane_by net first (entry_of net slots (opposite x)) x

abbrev pub border_made : Network → ℕ → List ℕ → ℕ → Direction → Border
border_made net blocks slots first x =
    border_by net first (far_block net blocks x) (entry_of net slots (opposite x)) x

abbrev pub lanes_made : Network → List ℕ → ℕ → List ℕ → List InnerLane
lanes_made net slots first indices =
    map (λ i. lane_made net slots first (direction_in net i)) indices

abbrev pub borders_made : Network → ℕ → List ℕ → ℕ → List ℕ → List Border
borders_made net blocks slots first indices =
    map (λ i. border_made net blocks slots first (direction_in net i)) indices

-- the places of the rows that belong to the nodes from one on to another
abbrev pub span : Rows → ℕ → ℕ → List ℕ
span rows first next =
    slice_range rows.places (slice_index rows.starts first) (slice_index rows.starts next)

-- the directions that leave the nodes of a block: those within the block, and those to other blocks
pub record BlockRows : Type 0 where
  pub lanes : List InnerLane
  pub borders : List Border

abbrev pub rows_from : Network → ℕ → ByNode → ℕ → ℕ → BlockRows
rows_from net blocks rows first next = record {
  lanes = lanes_made net rows.slots first (span (inner_rows rows) first next);
  borders = borders_made net blocks rows.slots first
      (span (outer_rows (nodes net) rows) first next);
}

-- the nodes from one on to another as a block
abbrev pub block_from : Network → ℕ → ByNode → ℕ → ℕ → CellsView
block_from net blocks rows first next = record {
  top = top net;
  excess = slice_range net.sources first next;
  labels = replicate (next - first) 0;
  rooms = slice_range net.sinks first next;
  starts = starts_from (inner_rows rows).starts first next;
  lanes = (rows_from net blocks rows first next).lanes;
  border_starts = starts_from (outer_rows (nodes net) rows).starts first next;
  borders = (rows_from net blocks rows first next).borders;
}

abbrev pub block_made : Network → ℕ → ByNode → ℕ → CellsView
block_made net blocks rows b =
    block_from net blocks rows (first_node (nodes net) blocks b)
    (first_node (nodes net) blocks (b + 1))

abbrev pub blocks_made : Network → ℕ → ByNode → List CellsView
blocks_made net blocks rows = table blocks (block_made net blocks rows)

-- the directions that leave the nodes of a block
abbrev pub block_rows : Network → ℕ → ByNode → ℕ → BlockRows
block_rows net blocks rows b =
    rows_from net blocks rows (first_node (nodes net) blocks b)
    (first_node (nodes net) blocks (b + 1))

abbrev pub firsts_made : Network → ℕ → List ℕ
firsts_made net blocks = table blocks (first_node (nodes net) blocks)

-- the first node of the block that a direction leaves
abbrev pub near_first : Network → ℕ → Direction → ℕ
near_first net blocks x = first_node (nodes net) blocks (near_block net blocks x)

-- ---- the whole

-- the blocks of a net, with no message on the way
abbrev pub whole_of : Network → Parts → Whole
whole_of net parts =
    record {
      net = net;
      firsts = parts.firsts.items;
      slots = parts.slots.items;
      blocks = parts.blocks.items;
      ways = [];
      got = 0;
    }

-- the parts with no message on the way
abbrev pub whole_at_opening : Network → ℕ → List ℕ → List ℕ → List CellsView → Whole
whole_at_opening net blocks firsts slots parts =
    record {
      net = net;
      firsts = firsts;
      slots = slots;
      blocks = parts;
      ways = replicate blocks (replicate blocks []);
      got = 0;
    }

-- the parts are a net in so many blocks, as it is at the opening
pub record IsSplit (net : Network) (blocks : ℕ) (firsts slots : List ℕ)
    (parts : List CellsView) : Type 0 where
  pub number : length parts ≡ blocks
  pub placed : IsPlaced (whole_at_opening net blocks firsts slots parts)
  pub filled : IsFilled (whole_at_opening net blocks firsts slots parts)
  pub opening : state_shown (whole_at_opening net blocks firsts slots parts)
      ≡ opening_state net blocks
