-- The blocks that are made are the net, as it is at the opening.
use Rattle.std.proofs.Common.{◌≡◌, ℕ, ◌+◌, ◌-◌, ◌*◌, ◌/◌, ◌<◌, ◌≤◌, Bool, true, false, cond, List, [], length, get_or, slice_index, slice_range, map, replicate, refl, sym, ◌∙◌, ap, subst, arith, None}
use Rattle.std.proofs.lemmas.List.{length-map, length-replicate, get_or-map, get_or-replicate}
use Rattle.std.proofs.lemmas.List.FromFn.{fill_by_all}
use Rattle.flow_network.specs.Cut.{Network, nodes, IsNet}
use Rattle.block_events.specs.declared.lane.Lane.{Lane}
use Rattle.block_events.specs.declared.direction.Direction.{Direction}
use Rattle.block_events.specs.declared.message.Message.{Message}
use Rattle.block_events.specs.Directions.{IsDirection, forward, backward, near, far}
use Rattle.block_events.specs.States as core
use Rattle.block_events.specs.Soundness.{first_residual, opening_state}
use Rattle.block_events.proofs.Ends.{near_in, far_in}
use Rattle.block_events.proofs.Opening.{opened_is}
use Rattle.block_net.specs.declared.lanes.InnerLane.{InnerLane}
use Rattle.block_net.specs.declared.lanes.Border.{Border}
use Rattle.block_net.specs.Views.{CellsView, count, excess_in, label_in, room_in, lane_in, border_in, no_row, no_border, first_lane, first_border}
use Rattle.block_net.specs.Whole.{Whole, table, index_of, block_at, block_with, node_block, place, near_node_block, is_outer, lane_of, border_of, shown_lane, shown_border, shown_of, state_shown, no_block, IsInnerAt, IsBorderAt, StandsAt, IsPlaced, LiesAt, IsFilled}
use Rattle.block_net.proofs.Tables.{length_table, table_at}
use Rattle.block_split.specs.Split.{ByNode, Rows, inner_rows, outer_rows, CanSplit, direction_in, AreNodeRows, AreGrouped, HasSlots, first_node, base_of, span, starts_from, lane_made, border_made, lanes_made, borders_made, block_made, blocks_made, firsts_made, whole_at_opening, IsSplit}
use Rattle.block_split.proofs.Numbers.{is_direction, index_is, index_forth, first_low, first_high, first_within, first_grows, node_block_below, node_block_is}
use Rattle.block_split.proofs.Spots.{starts_grow}
use Rattle.block_split.proofs.Spans.{length_range, range_at, slot_of, stands_in, length_span}
use Rattle.block_split.proofs.Made.{inner_blocks}

abbrev made : Network → ℕ → ByNode → Whole
made net blocks rows = whole_at_opening net blocks (firsts_made net blocks) rows.slots (blocks_made net blocks rows)

-- what is known of the net and its rows
pub record IsReady (net : Network) (blocks : ℕ) (rows : ByNode) : Type 0 where
  pub net_is : IsNet net
  pub split : CanSplit net blocks
  pub rows_are : AreGrouped net blocks rows

count_made : (net : Network) (blocks : ℕ) (rows : ByNode) → length (blocks_made net blocks rows) ≡ blocks
count_made net blocks rows = length_table blocks (block_made net blocks rows)

-- ---- nodes

-- where a node stands: its block and its place
pub record IsNodeBlock (net : Network) (blocks : ℕ) (rows : ByNode) (v b : ℕ) : Type 0 where
  pub node_block_is : node_block (made net blocks rows) v ≡ b
  pub small : b < blocks
  pub block_is : block_with (made net blocks rows) v ≡ block_made net blocks rows b
  pub place_is : place (made net blocks rows) v ≡ v - first_node (nodes net) blocks b
  pub low : first_node (nodes net) blocks b ≤ v
  pub high : v < first_node (nodes net) blocks (b + 1)
  pub within : first_node (nodes net) blocks (b + 1) ≤ nodes net

at_node_block : (net : Network) (blocks : ℕ) (rows : ByNode) (v : ℕ) → IsReady net blocks rows → v < nodes net
    → IsNodeBlock net blocks rows v (core.block_of net blocks v)
at_node_block net blocks rows v ready l =
    let n = nodes net in
    let some = ready.split.some in
    let b = core.block_of net blocks v in
    let lb = node_block_below n blocks v some l in
    let h : node_block (made net blocks rows) v ≡ b = ap (λ k. (v * k) / n) (count_made net blocks rows) in
    record {
      node_block_is = h;
      small = lb;
      block_is = ap (block_at (made net blocks rows)) h ∙ table_at blocks (block_made net blocks rows) b no_block lb;
      place_is = ap (λ k. v - slice_index (firsts_made net blocks) k) h ∙ ap (λ k. v - k) (table_at blocks (first_node n blocks) b 0 lb);
      low = first_low n blocks v some l;
      high = first_high n blocks v some l;
      within = first_within n blocks (b + 1) some (omega (arith, lb));
    }

outer_is : (net : Network) (blocks : ℕ) (rows : ByNode) (x : Direction) → is_outer (made net blocks rows) x ≡ core.is_border net blocks x
outer_is net blocks rows x = ap (λ k. core.is_border net k x) (count_made net blocks rows)

back_to : (first v : ℕ) → first ≤ v → first + (v - first) ≡ v
back_to first v low = omega (arith, low)

place_next : (first v : ℕ) → first ≤ v → v - first + 1 ≡ v + 1 - first
place_next first v low = omega (arith, low)

-- where the range of a node begins, and where the next begins
range_of : (starts : List ℕ) (first next v : ℕ) → first ≤ v → v ≤ next
    → slice_index (starts_from starts first next) (v - first) ≡ slice_index starts v - slice_index starts first
range_of starts first next v low high =
    table_at (next - first + 1) (λ i. slice_index starts (first + i) - slice_index starts first) (v - first) 0 (omega (arith, low, high))
    ∙ ap (λ k. slice_index starts k - slice_index starts first) (back_to first v low)

-- ---- directions

-- what is read at the slot of a direction
map_span : {A : Type 0} (make : ℕ → A) (net : Network) (blocks : ℕ) (outer : Bool) (rows : Rows) (first next p : ℕ) (d : A) → AreNodeRows net blocks outer rows → next ≤ nodes net
    → slice_index rows.starts first ≤ p → p < slice_index rows.starts next
    → get_or (map make (span rows first next)) (p - slice_index rows.starts first) d ≡ make (slice_index rows.places p)
map_span make net blocks outer rows first next p d is ln low high =
    let i = slice_index rows.starts first in
    let j = slice_index rows.starts next in
    let len = length_span net blocks outer rows first next is ln in
    get_or-map make (span rows first next) (p - i) 0 d (omega (arith, len, low, high))
    ∙ ap make (range_at rows.places i j (p - i) 0 (omega (arith, low, high)) ∙ ap (slice_index rows.places) (back_to i p low))

abbrev pub pick : Bool → Network → ByNode → Rows
pick true net rows = (outer_rows (nodes net) rows)
pick false net rows = (inner_rows rows)

pub picked : (net : Network) (blocks : ℕ) (rows : ByNode) (o : Bool) → AreGrouped net blocks rows → AreNodeRows net blocks o (pick o net rows)
picked net blocks rows true is = is.outer
picked net blocks rows false is = is.inner

pub picked_slots : (net : Network) (blocks : ℕ) (rows : ByNode) (o : Bool) → AreGrouped net blocks rows → HasSlots net blocks (pick o net rows) rows.slots
picked_slots net blocks rows true is = is.outer_slots
picked_slots net blocks rows false is = is.inner_slots

-- a direction in the rows of its block
pub record IsRow (net : Network) (blocks : ℕ) (rows : ByNode) (o : Bool) (x : Direction) (first next p : ℕ) : Type 0 where
  pub from : slice_index (starts_from (pick o net rows).starts first next) (near net x - first) ≤ slice_index rows.slots (index_of net x)
  pub below : slice_index rows.slots (index_of net x) < slice_index (starts_from (pick o net rows).starts first next) (near net x - first + 1)
  pub within : slice_index rows.slots (index_of net x) < length (span (pick o net rows) first next)
  pub low : slice_index (pick o net rows).starts first ≤ p
  pub high : p < slice_index (pick o net rows).starts next
  pub slot : slice_index rows.slots (index_of net x) ≡ p - slice_index (pick o net rows).starts first
  pub stands : slice_index (pick o net rows).places p ≡ index_of net x

pub row_of : (net : Network) (blocks : ℕ) (rows : ByNode) (o : Bool) (x : Direction) → IsReady net blocks rows → IsDirection net x → core.is_border net blocks x ≡ o
    → (p : ℕ) × IsRow net blocks rows o x (first_node (nodes net) blocks (core.block_of net blocks (near net x))) (first_node (nodes net) blocks (core.block_of net blocks (near net x) + 1)) p
row_of net blocks rows o x ready d e =
    let n = nodes net in
    let v = near net x in
    let lv = near_in net x ready.net_is d in
    let b = core.block_of net blocks v in
    let first = first_node n blocks b in
    let next = first_node n blocks (b + 1) in
    let at = at_node_block net blocks rows v ready lv in
    let group = pick o net rows in
    let is = picked net blocks rows o ready.rows_are in
    let found = slot_of net blocks o group rows.slots x ready.net_is ready.split.some is (picked_slots net blocks rows o ready.rows_are) d e in
    let p = found.0 in
    let slot = found.1 in
    let grow = starts_grow net blocks o group is in
    let low = grow first v at.low (omega (arith, lv)) in
    let high = grow (v + 1) next (omega (arith, at.high)) (omega (arith, at.within)) in
    let here = range_of group.starts first next v at.low (omega (arith, at.high)) in
    let there = ap (slice_index (starts_from group.starts first next)) (place_next first v at.low)
    ∙ range_of group.starts first next (v + 1) (omega (arith, at.low)) (omega (arith, at.high)) in (
      p,
      record {
        from = omega (arith, here, slot.slot, slot.from, low);
        below = omega (arith, there, slot.slot, slot.below, slot.base);
        within = omega (arith, slot.slot, slot.below, slot.base, high, length_span net blocks o group first next is at.within);
        low = slot.base;
        high = omega (arith, slot.below, high);
        slot = slot.slot;
        stands = slot.stands;
      },
    )

-- what is made of a direction stands at its slot
pub read_row : {A : Type 0} (make : Direction → A) (net : Network) (blocks : ℕ) (rows : ByNode) (o : Bool) (x : Direction) (first next p : ℕ) (d : A) → AreGrouped net blocks rows → next ≤ nodes net
    → IsDirection net x → IsRow net blocks rows o x first next p
    → get_or (map (λ i. make (direction_in net i)) (span (pick o net rows) first next)) (slice_index rows.slots (index_of net x)) d ≡ make x
read_row make net blocks rows o x first next p d is ln dx row =
    ap (λ j. get_or (map (λ i. make (direction_in net i)) (span (pick o net rows) first next)) j d) row.slot
    ∙ (map_span (λ i. make (direction_in net i)) net blocks o (pick o net rows) first next p d (picked net blocks rows o is) ln row.low row.high
    ∙ ap make (ap (direction_in net) row.stands ∙ index_is net x dx))

lane_is : (net : Network) (blocks : ℕ) (rows : ByNode) (x : Direction) → IsReady net blocks rows → IsDirection net x → core.is_border net blocks x ≡ false
    → lane_of (made net blocks rows) x ≡ lane_made net rows.slots (first_node (nodes net) blocks (core.block_of net blocks (near net x))) x
lane_is net blocks rows x ready d e =
    let at = at_node_block net blocks rows (near net x) ready (near_in net x ready.net_is d) in
    let row = row_of net blocks rows false x ready d e in
    ap (λ (b : CellsView). lane_in b (slice_index rows.slots (index_of net x))) at.block_is
    ∙ read_row (lane_made net rows.slots (first_node (nodes net) blocks (core.block_of net blocks (near net x)))) net blocks rows false x _ _ row.0 no_row ready.rows_are at.within d row.1

border_is : (net : Network) (blocks : ℕ) (rows : ByNode) (x : Direction) → IsReady net blocks rows → IsDirection net x → core.is_border net blocks x ≡ true
    → border_of (made net blocks rows) x ≡ border_made net blocks rows.slots (first_node (nodes net) blocks (core.block_of net blocks (near net x))) x
border_is net blocks rows x ready d e =
    let at = at_node_block net blocks rows (near net x) ready (near_in net x ready.net_is d) in
    let row = row_of net blocks rows true x ready d e in
    ap (λ (b : CellsView). border_in b (slice_index rows.slots (index_of net x))) at.block_is
    ∙ read_row (border_made net blocks rows.slots (first_node (nodes net) blocks (core.block_of net blocks (near net x)))) net blocks rows true x _ _ row.0 no_border ready.rows_are at.within d row.1

pub length_lanes : (net : Network) (slots : List ℕ) (first : ℕ) (indices : List ℕ) → length (lanes_made net slots first indices) ≡ length indices
length_lanes net slots first indices = length-map _ _

pub length_borders : (net : Network) (blocks : ℕ) (slots : List ℕ) (first : ℕ) (indices : List ℕ) → length (borders_made net blocks slots first indices) ≡ length indices
length_borders net blocks slots first indices = length-map _ _

inner_at : (net : Network) (blocks : ℕ) (rows : ByNode) (x : Direction) → IsReady net blocks rows → IsDirection net x → core.is_border net blocks x ≡ false
    → IsInnerAt (made net blocks rows) x
inner_at net blocks rows x ready d e =
    let w = made net blocks rows in
    let v = near net x in
    let b = core.block_of net blocks v in
    let B = block_made net blocks rows b in
    let first = first_node (nodes net) blocks b in
    let at = at_node_block net blocks rows v ready (near_in net x ready.net_is d) in
    let away = at_node_block net blocks rows (far net x) ready (far_in net x ready.net_is d) in
    let row = (row_of net blocks rows false x ready d e).1 in
    let lane = lane_is net blocks rows x ready d e in
    let same : core.block_of net blocks (far net x) ≡ b = sym (inner_blocks net blocks x e) in
    record {
      from = omega (arith, row.from, ap (λ (q : CellsView). first_lane q (place w v)) at.block_is, ap (first_lane B) at.place_is);
      below = omega (arith, row.below, ap (λ (q : CellsView). first_lane q (place w v + 1)) at.block_is, ap (λ k. first_lane B (k + 1)) at.place_is);
      within = omega (arith, row.within, ap (λ (q : CellsView). length q.lanes) at.block_is, length_lanes net rows.slots first (span (inner_rows rows) first (first_node (nodes net) blocks (b + 1))));
      far = ap (λ (q : InnerLane). q.far) lane ∙ sym (away.place_is ∙ ap (λ k. far net x - first_node (nodes net) blocks k) same);
      opposite = ap (λ (q : InnerLane). q.opposite) lane;
    }

border_at : (net : Network) (blocks : ℕ) (rows : ByNode) (x : Direction) → IsReady net blocks rows → IsDirection net x → core.is_border net blocks x ≡ true
    → IsBorderAt (made net blocks rows) x
border_at net blocks rows x ready d e =
    let w = made net blocks rows in
    let v = near net x in
    let b = core.block_of net blocks v in
    let B = block_made net blocks rows b in
    let first = first_node (nodes net) blocks b in
    let at = at_node_block net blocks rows v ready (near_in net x ready.net_is d) in
    let away = at_node_block net blocks rows (far net x) ready (far_in net x ready.net_is d) in
    let row = (row_of net blocks rows true x ready d e).1 in
    let border = border_is net blocks rows x ready d e in
    record {
      from = omega (arith, row.from, ap (λ (q : CellsView). first_border q (place w v)) at.block_is, ap (first_border B) at.place_is);
      below = omega (arith, row.below, ap (λ (q : CellsView). first_border q (place w v + 1)) at.block_is, ap (λ k. first_border B (k + 1)) at.place_is);
      within = omega (arith, row.within, ap (λ (q : CellsView). length q.borders) at.block_is, length_borders net blocks rows.slots first (span (outer_rows (nodes net) rows) first (first_node (nodes net) blocks (b + 1))));
      direction = ap (λ (q : Border). q.direction) border;
      near = ap (λ (q : Border). q.near) border ∙ sym at.place_is;
      to = ap (λ (q : Border). q.to) border ∙ sym away.node_block_is;
      opposite = ap (λ (q : Border). q.opposite) border;
      capacity = ap (λ (q : Border). q.capacity) border;
    }

-- two directions of one kind with one block and one slot are one
pub one_slot : (net : Network) (blocks : ℕ) (rows : ByNode) (o : Bool) (x y : Direction) → IsReady net blocks rows → IsDirection net x → IsDirection net y
    → core.is_border net blocks x ≡ o → core.is_border net blocks y ≡ o → core.block_of net blocks (near net x) ≡ core.block_of net blocks (near net y)
    → slice_index rows.slots (index_of net x) ≡ slice_index rows.slots (index_of net y) → x ≡ y
one_slot net blocks rows o x y ready dx dy ex ey node_block same =
    let one = row_of net blocks rows o x ready dx ex in
    let two = row_of net blocks rows o y ready dy ey in
    let base = ap (base_of net blocks (pick o net rows)) node_block in
    let p : one.0 ≡ two.0 = omega (arith, one.1.slot, two.1.slot, one.1.low, two.1.low, base, same) in
    let index : index_of net x ≡ index_of net y = sym one.1.stands ∙ (ap (slice_index (pick o net rows).places) p ∙ two.1.stands) in
    sym (index_is net x dx) ∙ (ap (direction_in net) index ∙ index_is net y dy)

-- what stands in the range of a node
stands_at : (net : Network) (blocks : ℕ) (rows : ByNode) (o : Bool) (v j : ℕ) → IsReady net blocks rows → v < nodes net
    → slice_index (starts_from (pick o net rows).starts (first_node (nodes net) blocks (core.block_of net blocks v)) (first_node (nodes net) blocks (core.block_of net blocks v + 1))) (v - first_node (nodes net) blocks (core.block_of net blocks v)) ≤ j
    → j < slice_index (starts_from (pick o net rows).starts (first_node (nodes net) blocks (core.block_of net blocks v)) (first_node (nodes net) blocks (core.block_of net blocks v + 1))) (v - first_node (nodes net) blocks (core.block_of net blocks v) + 1)
    → (x : Direction) × StandsAt (made net blocks rows) o v j x
stands_at net blocks rows o v j ready lv low high =
    let n = nodes net in
    let b = core.block_of net blocks v in
    let first = first_node n blocks b in
    let next = first_node n blocks (b + 1) in
    let at = at_node_block net blocks rows v ready lv in
    let group = pick o net rows in
    let is = picked net blocks rows o ready.rows_are in
    let starts = group.starts in
    let grow = starts_grow net blocks o group is in
    let here = range_of starts first next v at.low (omega (arith, at.high)) in
    let there = ap (slice_index (starts_from starts first next)) (place_next first v at.low)
    ∙ range_of starts first next (v + 1) (omega (arith, at.low)) (omega (arith, at.high)) in
    let base = grow first v at.low (omega (arith, lv)) in
    let p = slice_index starts first + j in
    let from : slice_index starts v ≤ p = omega (arith, low, here, base) in
    let below : p < slice_index starts (v + 1) = omega (arith, high, there, base) in
    let i = slice_index group.places p in
    let small = is.small v p lv from below in
    let node = is.node v p lv from below in
    let x = direction_in net i in
    let slots = picked_slots net blocks rows o ready.rows_are p (omega (arith, from, grow 0 v (omega arith) (omega (arith, lv)))) (omega (arith, below, grow (v + 1) n (omega (arith, lv)) (omega arith))) in (
      x,
      record {
        direction = is_direction net i small;
        near = node;
        outer = outer_is net blocks rows x ∙ is.outer v p lv from below;
        slot = ap (slice_index rows.slots) (index_forth net i small) ∙ (slots ∙ omega (arith, ap (λ u. base_of net blocks group (core.block_of net blocks u)) node));
      },
    )

-- ---- each has its place

placed : (net : Network) (blocks : ℕ) (rows : ByNode) → IsReady net blocks rows → IsPlaced (made net blocks rows)
placed net blocks rows ready =
    let n = nodes net in
    let w = made net blocks rows in
    let len = count_made net blocks rows in
    let node_block_of = λ (v : ℕ) (l : v < n). at_node_block net blocks rows v ready l in
    let first = λ (v : ℕ). first_node n blocks (core.block_of net blocks v) in
    let next = λ (v : ℕ). first_node n blocks (core.block_of net blocks v + 1) in
    let lane_starts = λ (v : ℕ) (l : v < n). ap (λ (q : CellsView). first_lane q (place w v)) (node_block_of v l).block_is ∙ ap (λ k. slice_index (starts_from (inner_rows rows).starts (first v) (next v)) k) (node_block_of v l).place_is in
    let lane_ends = λ (v : ℕ) (l : v < n). ap (λ (q : CellsView). first_lane q (place w v + 1)) (node_block_of v l).block_is ∙ ap (λ k. slice_index (starts_from (inner_rows rows).starts (first v) (next v)) (k + 1)) (node_block_of v l).place_is in
    let border_starts = λ (v : ℕ) (l : v < n). ap (λ (q : CellsView). first_border q (place w v)) (node_block_of v l).block_is ∙ ap (λ k. slice_index (starts_from (outer_rows (nodes net) rows).starts (first v) (next v)) k) (node_block_of v l).place_is in
    let border_ends = λ (v : ℕ) (l : v < n). ap (λ (q : CellsView). first_border q (place w v + 1)) (node_block_of v l).block_is ∙ ap (λ k. slice_index (starts_from (outer_rows (nodes net) rows).starts (first v) (next v)) (k + 1)) (node_block_of v l).place_is in
    record {
      firsts_len = length_table blocks (first_node n blocks) ∙ sym len;
      slots_len = ready.rows_are.slots_len;
      node_blocks = λ v l. omega (arith, (node_block_of v l).node_block_is, (node_block_of v l).small, len);
      firsts = λ v l. omega (arith, ap (slice_index (firsts_made net blocks)) (node_block_of v l).node_block_is, table_at blocks (first_node n blocks) (core.block_of net blocks v) 0 (node_block_of v l).small, (node_block_of v l).low);
      places = λ v l.
          let at = node_block_of v l in
          omega (arith, at.place_is, at.low, at.high, ap count at.block_is, length_range net.sources (first v) (next v) at.within);
      tops = λ b l. ap (λ (q : CellsView). q.top) (table_at blocks (block_made net blocks rows) b no_block (omega (arith, l, len)));
      inner = λ x d e. inner_at net blocks rows x ready d (sym (outer_is net blocks rows x) ∙ e);
      borders = λ x d e. border_at net blocks rows x ready d (sym (outer_is net blocks rows x) ∙ e);
      apart = λ x y dx dy kind node_block same.
          let one = at_node_block net blocks rows (near net x) ready (near_in net x ready.net_is dx) in
          let two = at_node_block net blocks rows (near net y) ready (near_in net y ready.net_is dy) in
          one_slot net blocks rows (core.is_border net blocks y) x y ready dx dy
          (sym (outer_is net blocks rows x) ∙ (kind ∙ outer_is net blocks rows y)) refl
          (sym one.node_block_is ∙ (node_block ∙ two.node_block_is)) same;
      lanes = λ v j l low high. stands_at net blocks rows false v j ready l (omega (arith, low, lane_starts v l)) (omega (arith, high, lane_ends v l));
      outers = λ v j l low high. stands_at net blocks rows true v j ready l (omega (arith, low, border_starts v l)) (omega (arith, high, border_ends v l));
    }

-- ---- and nothing else is there

block_is : (net : Network) (blocks : ℕ) (rows : ByNode) (b : ℕ) → b < blocks → block_at (made net blocks rows) b ≡ block_made net blocks rows b
block_is net blocks rows b l = table_at blocks (block_made net blocks rows) b no_block l

-- a node between the first of a block and the first of the next
lies_in : (net : Network) (blocks : ℕ) (rows : ByNode) (b v : ℕ) → IsReady net blocks rows → b < blocks → first_node (nodes net) blocks b ≤ v
    → v < first_node (nodes net) blocks (b + 1) → node_block (made net blocks rows) v ≡ b
lies_in net blocks rows b v ready lb low high =
    let n = nodes net in
    let some = ready.split.some in
    let within = first_within n blocks (b + 1) some (omega (arith, lb)) in
    ap (λ k. (v * k) / n) (count_made net blocks rows) ∙ node_block_is n blocks b v some (omega (arith, high, within)) low high

node_of : (net : Network) (blocks : ℕ) (rows : ByNode) (b p : ℕ) → IsReady net blocks rows → b < blocks → p < count (block_made net blocks rows b)
    → (v : ℕ) × LiesAt (made net blocks rows) b p v
node_of net blocks rows b p ready lb lp =
    let n = nodes net in
    let first = first_node n blocks b in
    let within = first_within n blocks (b + 1) ready.split.some (omega (arith, lb)) in
    let high : first + p < first_node n blocks (b + 1) = omega (arith, lp, length_range net.sources first (first_node n blocks (b + 1)) within) in
    let here = lies_in net blocks rows b (first + p) ready lb (omega arith) high in (
      first + p,
      record {
        node = omega (arith, high, within);
        node_block = here;
        place = omega (arith, ap (slice_index (firsts_made net blocks)) here, table_at blocks (first_node n blocks) b 0 lb);
      },
    )

border_in_block : (net : Network) (blocks : ℕ) (rows : ByNode) (b j : ℕ) → IsReady net blocks rows → b < blocks → j < length (block_made net blocks rows b).borders
    → (x : Direction) × (near_node_block (made net blocks rows) x ≡ b) × StandsAt (made net blocks rows) true (near net x) j x
border_in_block net blocks rows b j ready lb lj =
    let n = nodes net in
    let some = ready.split.some in
    let first = first_node n blocks b in
    let next = first_node n blocks (b + 1) in
    let within = first_within n blocks (b + 1) some (omega (arith, lb)) in
    let group = (outer_rows (nodes net) rows) in
    let is = ready.rows_are.outer in
    let starts = group.starts in
    let grow = starts_grow net blocks true group is in
    let order = first_grows n blocks b some in
    let p = slice_index starts first + j in
    let long = length_borders net blocks rows.slots first (span group first next) ∙ length_span net blocks true group first next is within in
    let high : p < slice_index starts next = omega (arith, lj, long) in
    let stands = stands_in net blocks true group first next p is within order (omega arith) high in
    let i = slice_index group.places p in
    let x = direction_in net i in
    let here = lies_in net blocks rows b (near net x) ready lb stands.low stands.high in
    let node_block : core.block_of net blocks (near net x) ≡ b = sym (ap (λ k. (near net x * k) / n) (count_made net blocks rows)) ∙ here in
    let slots = ready.rows_are.outer_slots p (omega (arith, grow 0 first (omega arith) (omega (arith, order, within)))) (omega (arith, high, grow next n within (omega arith))) in (
      x,
      here,
      record {
        direction = is_direction net i stands.small;
        near = refl;
        outer = outer_is net blocks rows x ∙ stands.outer;
        slot = ap (slice_index rows.slots) (index_forth net i stands.small) ∙ (slots ∙ omega (arith, ap (base_of net blocks group) node_block));
      },
    )

filled : (net : Network) (blocks : ℕ) (rows : ByNode) → IsReady net blocks rows → IsFilled (made net blocks rows)
filled net blocks rows ready =
    let n = nodes net in
    let w = made net blocks rows in
    let len = count_made net blocks rows in
    let within = λ (b : ℕ) (l : b < blocks). first_within n blocks (b + 1) ready.split.some (omega (arith, l)) in
    let below = λ (b : ℕ) (l : b < length w.blocks). subst (λ (k : ℕ). b < k) len l in
    record {
      labels = λ b l.
          let first = first_node n blocks b in
          let next = first_node n blocks (b + 1) in
          let is = block_is net blocks rows b (below b l) in
          ap (λ (q : CellsView). length q.labels) is ∙ (length-replicate (next - first) 0
          ∙ (sym (length_range net.sources first next (within b (below b l))) ∙ sym (ap count is)));
      nodes = λ b p l lp. node_of net blocks rows b p ready (below b l) (subst (λ (q : CellsView). p < count q) (block_is net blocks rows b (below b l)) lp);
      borders = λ b j l lj. border_in_block net blocks rows b j ready (below b l) (subst (λ (q : CellsView). j < length q.borders) (block_is net blocks rows b (below b l)) lj);
    }

-- ---- the opening

table_of : (n : ℕ) (f : ℕ → ℕ) (xs : List ℕ) → length xs ≡ n → ((v : ℕ) → v < n → get_or xs v 0 ≡ f v) → table n f ≡ xs
table_of n f xs len each = sym (fill_by_all f xs n 0 len each)

table_of_lanes : (n : ℕ) (f : ℕ → Lane) (xs : List Lane) → length xs ≡ n → ((v : ℕ) → v < n → get_or xs v core.no_lane ≡ f v) → table n f ≡ xs
table_of_lanes n f xs len each = sym (fill_by_all f xs n core.no_lane len each)

shown_by : (b : Bool) (border : Border) (lane : InnerLane) (c : ℕ) → (b ≡ true → shown_border border ≡ record { residual = c; known = 0; flight = None })
    → (b ≡ false → shown_lane lane ≡ record { residual = c; known = 0; flight = None }) → cond b (shown_border border) (shown_lane lane) ≡ record { residual = c; known = 0; flight = None }
shown_by true border lane c at_true at_false = at_true refl
shown_by false border lane c at_true at_false = at_false refl

shown_is : (net : Network) (blocks : ℕ) (rows : ByNode) (x : Direction) → IsReady net blocks rows → IsDirection net x
    → shown_of (made net blocks rows) x ≡ record { residual = first_residual net x; known = 0; flight = None }
shown_is net blocks rows x ready d =
    let w = made net blocks rows in
    shown_by (is_outer w x) (border_of w x) (lane_of w x) (first_residual net x)
    (λ e. ap shown_border (border_is net blocks rows x ready d (sym (outer_is net blocks rows x) ∙ e)))
    (λ e. ap shown_lane (lane_is net blocks rows x ready d (sym (outer_is net blocks rows x) ∙ e)))

abbrev build : Network → ℕ → List ℕ → List ℕ → List ℕ → List Lane → List Lane → List (List (List Message)) → core.State
build net blocks excess labels rooms forth back ways =
    record { net = net; blocks = blocks; excess = excess; labels = labels; rooms = rooms; lanes = record { forth = forth; back = back }; ways = ways; got = 0 }

same_build : (net : Network) (k k' : ℕ) (e e' l l' r r' : List ℕ) (f f' g g' : List Lane) (ways : List (List (List Message)))
    → k ≡ k' → e ≡ e' → l ≡ l' → r ≡ r' → f ≡ f' → g ≡ g' → build net k e l r f g ways ≡ build net k' e' l' r' f' g' ways
same_build net k k' e e' l l' r r' f f' g g' ways e1 e2 e3 e4 e5 e6 = rw (e1, e2, e3, e4, e5, e6) refl

opening : (net : Network) (blocks : ℕ) (rows : ByNode) → IsReady net blocks rows → state_shown (made net blocks rows) ≡ opening_state net blocks
opening net blocks rows ready =
    let n = nodes net in
    let m = length net.arcs in
    let w = made net blocks rows in
    let first = λ (v : ℕ). first_node n blocks (core.block_of net blocks v) in
    let next = λ (v : ℕ). first_node n blocks (core.block_of net blocks v + 1) in
    let at = λ (v : ℕ) (l : v < n). at_node_block net blocks rows v ready l in
    let part = λ (xs : List ℕ) (v : ℕ) (l : v < n). range_at xs (first v) (next v) (v - first v) 0 (omega (arith, (at v l).low, (at v l).high)) ∙ ap (slice_index xs) (back_to (first v) v (at v l).low) in
    let excess = table_of n (λ v. excess_in (block_with w v) (place w v)) net.sources refl (λ v l.
    sym (ap (λ (q : CellsView). excess_in q (place w v)) (at v l).block_is ∙ (ap (slice_index (slice_range net.sources (first v) (next v))) (at v l).place_is ∙ part net.sources v l))) in
    let rooms = table_of n (λ v. room_in (block_with w v) (place w v)) net.sinks ready.net_is.same (λ v l.
    sym (ap (λ (q : CellsView). room_in q (place w v)) (at v l).block_is ∙ (ap (slice_index (slice_range net.sinks (first v) (next v))) (at v l).place_is ∙ part net.sinks v l))) in
    let labels = table_of n (λ v. label_in (block_with w v) (place w v)) (replicate n 0) (length-replicate n 0) (λ v l.
    get_or-replicate n v 0 0 l ∙ sym (ap (λ (q : CellsView). label_in q (place w v)) (at v l).block_is ∙ (ap (slice_index (replicate (next v - first v) 0)) (at v l).place_is
    ∙ get_or-replicate (next v - first v) (v - first v) 0 0 (omega (arith, (at v l).low, (at v l).high))))) in
    let forth = table_of_lanes m (λ k. shown_of w (forward k)) (map (λ arc. record { residual = arc.capacity; known = 0; flight = None }) net.arcs) (length-map _ _) (λ k l.
    opened_is net blocks (forward k) l ∙ sym (shown_is net blocks rows (forward k) ready l)) in
    let back = table_of_lanes m (λ k. shown_of w (backward k)) (map (λ arc. record { residual = 0; known = 0; flight = None }) net.arcs) (length-map _ _) (λ k l.
    opened_is net blocks (backward k) l ∙ sym (shown_is net blocks rows (backward k) ready l)) in
    same_build net _ _ _ _ _ _ _ _ _ _ _ _ (replicate blocks (replicate blocks [])) (count_made net blocks rows) excess labels rooms forth back

-- the parts that are made are the net in blocks
pub split_is : (net : Network) (blocks : ℕ) (rows : ByNode) (firsts : List ℕ) (parts : List CellsView) → IsNet net → CanSplit net blocks → AreGrouped net blocks rows
    → firsts ≡ firsts_made net blocks → parts ≡ blocks_made net blocks rows → IsSplit net blocks firsts rows.slots parts
split_is net blocks rows firsts parts h split is ef ep =
    let ready : IsReady net blocks rows = record { net_is = h; split = split; rows_are = is } in
    let whole : IsSplit net blocks (firsts_made net blocks) rows.slots (blocks_made net blocks rows) =
    record { number = count_made net blocks rows; placed = placed net blocks rows ready; filled = filled net blocks rows ready; opening = opening net blocks rows ready } in
    let one = subst (λ (fs : List ℕ). IsSplit net blocks fs rows.slots (blocks_made net blocks rows)) (sym ef) whole in
    subst (λ (bs : List CellsView). IsSplit net blocks firsts rows.slots bs) (sym ep) one
