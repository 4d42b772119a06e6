-- A block as plain lists, and what its lists keep.
use Rattle.std.specs.Prelude.{◌≡◌, ℕ, zero, suc, ◌+◌, ◌-◌, ◌^◌, ◌<◌, ◌≤◌, ◌||◌, false, cond, nat_lt}
use Rattle.std.specs.Prelude.{min, max, List, length, slice_index, slice_index_or, slice_set}
use Rattle.std.specs.Prelude.{Option, Some, None, All, sum, sum_by}
use Rattle.std.specs.Option.{is_some}
use Rattle.flow_network.specs.Limits.{node_limit}
use Rattle.flow_network.specs.Progress.{top_label}
use Rattle.block_events.specs.declared.flight.Flight.{Flight}
use Rattle.block_events.specs.declared.message.Message.{Message}
use Rattle.block_events.specs.declared.message.Message.TheVariants.{Parcel}
use Rattle.block_net.specs.declared.lanes.InnerLane.{InnerLane}
use Rattle.block_net.specs.declared.lanes.Border.{Border}

-- of each node the excess, the label and what it can still give the sink; the directions of node v
-- within the block at the places starts v to starts (v + 1), and those to other blocks likewise
pub record CellsView : Type 0 where
  pub top : ℕ
  pub excess : List ℕ
  pub labels : List ℕ
  pub rooms : List ℕ
  pub starts : List ℕ
  pub lanes : List InnerLane
  pub border_starts : List ℕ
  pub borders : List Border

abbrev pub no_row : InnerLane
no_row = record { residual = 0; far = 0; opposite = 0 }

abbrev pub no_border : Border
no_border =
    record {
      direction = record { arc = 0; back = false };
      near = 0;
      to = 0;
      opposite = 0;
      capacity = 0;
      residual = 0;
      known = 0;
      flight = None;
    }

abbrev pub count : CellsView → ℕ
count b = length b.excess

abbrev pub excess_in : CellsView → ℕ → ℕ
excess_in b v = slice_index b.excess v

abbrev pub label_in : CellsView → ℕ → ℕ
label_in b v = slice_index b.labels v

abbrev pub room_in : CellsView → ℕ → ℕ
room_in b v = slice_index b.rooms v

abbrev pub lane_in : CellsView → ℕ → InnerLane
lane_in b j = slice_index_or b.lanes j no_row

abbrev pub border_in : CellsView → ℕ → Border
border_in b j = slice_index_or b.borders j no_border

abbrev pub first_lane : CellsView → ℕ → ℕ
first_lane b v = slice_index b.starts v

abbrev pub first_border : CellsView → ℕ → ℕ
first_border b v = slice_index b.border_starts v

-- the amount that is out
abbrev pub out_of : Option Flight → ℕ
out_of (Some f) = f.amount
out_of None = 0

-- what the arc holds that the direction can not carry
abbrev pub spare : Border → ℕ
spare x = x.capacity - x.residual

pub record IsLane (nodes lanes : ℕ) (x : InnerLane) : Type 0 where
  pub far : x.far < nodes
  pub opposite : x.opposite < lanes

pub record IsBorder (nodes top : ℕ) (x : Border) : Type 0 where
  pub near : x.near < nodes
  pub fits : x.residual + out_of x.flight ≤ x.capacity
  pub known : x.known ≤ top
  pub small : x.capacity < 2 ^ 62

-- what the lists keep
pub record IsBlock (b : CellsView) : Type 0 where
  pub top : b.top ≤ top_label node_limit
  pub above : 1 ≤ b.top
  pub small : length b.excess ≤ node_limit
  pub labels_len : length b.labels ≡ length b.excess
  pub rooms_len : length b.rooms ≡ length b.excess
  pub starts_len : length b.starts ≡ length b.excess + 1
  pub border_starts_len : length b.border_starts ≡ length b.excess + 1
  pub within : (v : ℕ) → v ≤ length b.excess → slice_index b.starts v ≤ length b.lanes
  pub border_within : (v : ℕ) → v ≤ length b.excess
      → slice_index b.border_starts v ≤ length b.borders
  pub labels : All (λ d. d ≤ b.top) b.labels
  pub lanes : All (IsLane (length b.excess) (length b.lanes)) b.lanes
  pub borders : All (IsBorder (length b.excess) b.top) b.borders
  pub residuals : sum_by (λ x. x.residual) b.lanes < 2 ^ 62
  pub total : sum b.excess + sum_by spare b.borders < 2 ^ 62

-- ---- when excess of an active node can go on

-- along a direction within the block
pub record MayPush (b : CellsView) (v j : ℕ) : Type 0 where
  pub residual : 0 < (lane_in b j).residual
  pub level : label_in b v ≡ label_in b (lane_in b j).far + 1

-- along a direction to another block
pub record MaySend (b : CellsView) (v j : ℕ) : Type 0 where
  pub residual : 0 < (border_in b j).residual
  pub level : label_in b v ≡ (border_in b j).known + 1
  pub idle : (border_in b j).flight ≡ None

-- ---- what each event does to the block

-- an amount goes along a direction within the block
abbrev pub cells_after_push : CellsView → ℕ → ℕ → ℕ → CellsView
cells_after_push b v j a =
    let w = (lane_in b j).far in
    let o = (lane_in b j).opposite in
    let less = slice_set b.excess v (excess_in b v - a) in
    let taken = slice_set b.lanes j
    (record (lane_in b j) { residual = (lane_in b j).residual - a }) in
    record b {
      excess = slice_set less w (slice_index less w + a);
      lanes =
          slice_set taken o (record (slice_index_or taken o no_row) {
            residual =
                (slice_index_or taken o no_row).residual + a;
          });
    }

-- an amount goes to the sink
abbrev pub cells_after_sink_push : CellsView → ℕ → ℕ → CellsView
cells_after_sink_push b v a =
    record b {
      excess = slice_set b.excess v (excess_in b v - a);
      rooms = slice_set b.rooms v (room_in b v - a);
    }

-- a label rises
abbrev pub cells_after_relabel : CellsView → ℕ → ℕ → CellsView
cells_after_relabel b v d = record b { labels = slice_set b.labels v d }

-- an amount leaves for another block
abbrev pub cells_after_send : CellsView → ℕ → ℕ → ℕ → CellsView
cells_after_send b v j a = record b {
  excess = slice_set b.excess v (excess_in b v - a);
  borders =
      slice_set b.borders j
      (record (border_in b j) {
        residual = (border_in b j).residual - a;
        flight = Some (record { amount = a; label = label_in b v });
      });
}

-- the parcel of a node's excess on the direction at a place
abbrev pub parcel_of : CellsView → ℕ → ℕ → Message
parcel_of b v j =
    Parcel (border_in b j).direction (min (excess_in b v) (border_in b j).residual) (label_in b v)

-- an amount comes from another block: the direction learns the label, but not while a parcel of its
-- own is out
abbrev pub cells_after_accept : CellsView → ℕ → ℕ → ℕ → CellsView
cells_after_accept b j a d =
    let x = border_in b j in
    record b {
      excess = slice_set b.excess x.near (excess_in b x.near + a);
      borders =
          slice_set b.borders j
          (record x {
            residual = x.residual + a;
            known =
                cond (is_some x.flight) x.known (max x.known d);
          });
    }

-- a direction to another block knows a label of its far end
abbrev pub cells_with_known : CellsView → ℕ → ℕ → CellsView
cells_with_known b j d = record b
    { borders = slice_set b.borders j (record (border_in b j) { known = d }) }

-- the parcel that was out was taken
abbrev pub cells_after_delivery : CellsView → ℕ → CellsView
cells_after_delivery b j = record b
    { borders = slice_set b.borders j (record (border_in b j) { flight = None }) }

-- the parcel that was out comes back
abbrev pub cells_after_return : CellsView → ℕ → ℕ → ℕ → CellsView
cells_after_return b j a told =
    let x = border_in b j in
    record b {
      excess = slice_set b.excess x.near (excess_in b x.near + a);
      borders = slice_set b.borders j
          (record x { residual = x.residual + a; known = told; flight = None });
    }

-- ---- the new label

-- the least of z and of n numbers from a place on
abbrev pub least_span : (ℕ → ℕ) → ℕ → ℕ → ℕ → ℕ
least_span f from zero z = z
least_span f from (suc n) z = min (least_span f from n z) (f (from + n))

abbrev pub lane_allows : CellsView → ℕ → ℕ
lane_allows b j = cond (nat_lt 0 (lane_in b j).residual) (label_in b (lane_in b j).far + 1) b.top

abbrev pub border_allows : CellsView → ℕ → ℕ
border_allows b j =
    cond (nat_lt 0 (border_in b j).residual || is_some (border_in b j).flight)
    ((border_in b j).known + 1) b.top

-- the highest label that the node may have
abbrev pub highest : CellsView → ℕ → ℕ
highest b v =
    least_span (border_allows b) (first_border b v) (first_border b (v + 1) - first_border b v)
    (least_span (lane_allows b) (first_lane b v) (first_lane b (v + 1) - first_lane b v)
    (cond (nat_lt 0 (room_in b v)) 1 b.top))
