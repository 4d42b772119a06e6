-- What the calls of a block do to what all blocks show.
use Rattle.std.proofs.Common.{◌≡◌, ℕ, ◌+◌, ◌-◌, ◌<◌, Bool, true, false, cond, min, max, not, eqb, List, length, set, get_or, slice_index, Some, None, Option, refl, sym, ◌∙◌, ap, subst, arith}
use Rattle.std.specs.Option.{is_some}
use Rattle.std.proofs.lemmas.List.{length-set, set-set, get_or_read}
use Rattle.std.proofs.lemmas.Bool.{eqb-true}
use Rattle.flow_network.specs.Cut.{Network, nodes}
use Rattle.flow_network.specs.Preflow.{arc_at}
use Rattle.flow_network.specs.Progress.{top}
use Rattle.block_events.specs.declared.lane.Lane.{Lane}
use Rattle.block_events.specs.declared.direction.Direction.{Direction}
use Rattle.block_events.specs.declared.flight.Flight.{Flight}
use Rattle.block_events.specs.declared.message.Message.TheVariants.{Parcel}
use Rattle.block_events.specs.Directions.{near, far, opposite}
use Rattle.block_events.specs.States as core
use Rattle.block_events.specs.Soundness.{amount_out}
use Rattle.block_events.proofs.Ends.{near_in, far_in}
use Rattle.block_events.proofs.Lanes.{near_opposite, border_opposite, opposite_twice}
use Rattle.block_net.specs.declared.lanes.InnerLane.{InnerLane}
use Rattle.block_net.specs.declared.lanes.Border.{Border}
use Rattle.block_net.specs.Views as block
use Rattle.block_net.specs.Views.{CellsView, no_row, no_border, count, excess_in, label_in, room_in, lane_in, border_in, out_of, parcel_of}
use Rattle.block_net.specs.Whole.{Whole, no_block, block_at, block_with, node_block, place, slot, is_outer, lane_of, border_of, shown_lane, shown_border, put_block}
use Rattle.block_net.proofs.Tables.{table_at}
use Rattle.block_events.specs.Effects.{BlocksView, blocks_after_sink_push, blocks_after_relabel, blocks_after_push, blocks_after_send, blocks_after_accept, blocks_after_delivery, blocks_after_return}
use Rattle.net_in_blocks.specs.Views.{blocks_in, IsLaid, IsSpot, IsRow}
use Rattle.net_in_blocks.proofs.Writing.{IsLike, spot_put, row_put, numbers_same, numbers_set, numbers, lanes_keep, lane_shown, border_shown, lane_read, inner_shown, outer_shown, same_spot, laid_put, set_other, block_same}

-- the blocks show v, and the block at b is B
pub record IsAt (w : Whole) (v : BlocksView) (b : ℕ) (B : CellsView) : Type 0 where
  pub laid : IsLaid w
  pub view : blocks_in w ≡ v
  pub block : b < length w.blocks
  pub is : block_at w b ≡ B

-- the block that the code read
pub at_read : (w : Whole) (v : BlocksView) (b : ℕ) (B : CellsView) → IsLaid w → blocks_in w ≡ v → b < length w.blocks → B ≡ get_or w.blocks b B → IsAt w v b B
at_read w v b B laid view l read = record { laid = laid; view = view; block = l; is = sym (get_or_read w.blocks b B l read no_block) }

-- ---- what is read

pub node_below : (w : Whole) (v : BlocksView) (b : ℕ) (B : CellsView) (u p : ℕ) → IsAt w v b B → IsSpot w u b p → p < count B
node_below w v b B u p at spot =
    let is = ap (λ (q : CellsView). count q) (ap (block_at w) spot.node_block ∙ at.is) in
    omega (arith, is, spot.place, at.laid.placed.places u spot.node)

number_read : (f : CellsView → List ℕ) (w : Whole) (b : ℕ) (B : CellsView) (u p : ℕ) → block_at w b ≡ B → IsSpot w u b p → slice_index (f B) p ≡ slice_index (numbers f w) u
number_read f w b B u p is spot =
    sym (table_at (nodes w.net) (λ v. slice_index (f (block_with w v)) (place w v)) u 0 spot.node
    ∙ (ap (slice_index (f (block_with w u))) spot.place
    ∙ ap (λ (q : CellsView). slice_index (f q) p) (ap (block_at w) spot.node_block ∙ is)))

pub excess_read : (w : Whole) (v : BlocksView) (b : ℕ) (B : CellsView) (u p : ℕ) → IsAt w v b B → IsSpot w u b p → excess_in B p ≡ slice_index v.excess u
excess_read w v b B u p at spot = number_read (λ (q : CellsView). q.excess) w b B u p at.is spot ∙ ap (λ (q : BlocksView). slice_index q.excess u) at.view

pub label_read : (w : Whole) (v : BlocksView) (b : ℕ) (B : CellsView) (u p : ℕ) → IsAt w v b B → IsSpot w u b p → label_in B p ≡ slice_index v.labels u
label_read w v b B u p at spot = number_read (λ (q : CellsView). q.labels) w b B u p at.is spot ∙ ap (λ (q : BlocksView). slice_index q.labels u) at.view

pub room_read : (w : Whole) (v : BlocksView) (b : ℕ) (B : CellsView) (u p : ℕ) → IsAt w v b B → IsSpot w u b p → room_in B p ≡ slice_index v.rooms u
room_read w v b B u p at spot = number_read (λ (q : CellsView). q.rooms) w b B u p at.is spot ∙ ap (λ (q : BlocksView). slice_index q.rooms u) at.view

pub top_read : (w : Whole) (v : BlocksView) (b : ℕ) (B : CellsView) → IsAt w v b B → B.top ≡ top v.net
top_read w v b B at = ap (λ (q : CellsView). q.top) (sym at.is) ∙ (at.laid.placed.tops b at.block ∙ ap (λ (q : BlocksView). top q.net) at.view)

pub lane_below : (w : Whole) (v : BlocksView) (b : ℕ) (B : CellsView) (x : Direction) (j : ℕ) → IsAt w v b B → IsRow w x false b j → j < length B.lanes
lane_below w v b B x j at row =
    let is = ap (λ (q : CellsView). length q.lanes) (ap (block_at w) row.node_block ∙ at.is) in
    omega (arith, is, row.slot, (at.laid.placed.inner x row.direction row.outer).within)

pub border_below : (w : Whole) (v : BlocksView) (b : ℕ) (B : CellsView) (x : Direction) (j : ℕ) → IsAt w v b B → IsRow w x true b j → j < length B.borders
border_below w v b B x j at row =
    let is = ap (λ (q : CellsView). length q.borders) (ap (block_at w) row.node_block ∙ at.is) in
    omega (arith, is, row.slot, (at.laid.placed.borders x row.direction row.outer).within)

lane_is : (w : Whole) (v : BlocksView) (b : ℕ) (B : CellsView) (x : Direction) (j : ℕ) → IsAt w v b B → IsRow w x false b j → lane_in B j ≡ lane_of w x
lane_is w v b B x j at row =
    sym (ap (λ (q : CellsView). lane_in q (slot w x)) (ap (block_at w) row.node_block ∙ at.is) ∙ ap (lane_in B) row.slot)

border_is : (w : Whole) (v : BlocksView) (b : ℕ) (B : CellsView) (x : Direction) (j : ℕ) → IsAt w v b B → IsRow w x true b j → border_in B j ≡ border_of w x
border_is w v b B x j at row =
    sym (ap (λ (q : CellsView). border_in q (slot w x)) (ap (block_at w) row.node_block ∙ at.is) ∙ ap (border_in B) row.slot)

pub inner_read : (w : Whole) (v : BlocksView) (b : ℕ) (B : CellsView) (x : Direction) (j : ℕ) → IsAt w v b B → IsRow w x false b j → shown_lane (lane_in B j) ≡ core.lane_at v.lanes x
inner_read w v b B x j at row =
    ap shown_lane (lane_is w v b B x j at row)
    ∙ (sym (inner_shown w x row.outer) ∙ (sym (lane_read w x row.direction) ∙ ap (λ (q : BlocksView). core.lane_at q.lanes x) at.view))

pub border_read : (w : Whole) (v : BlocksView) (b : ℕ) (B : CellsView) (x : Direction) (j : ℕ) → IsAt w v b B → IsRow w x true b j → shown_border (border_in B j) ≡ core.lane_at v.lanes x
border_read w v b B x j at row =
    ap shown_border (border_is w v b B x j at row)
    ∙ (sym (outer_shown w x row.outer) ∙ (sym (lane_read w x row.direction) ∙ ap (λ (q : BlocksView). core.lane_at q.lanes x) at.view))

-- the capacity of the arc of a border direction
pub border_capacity : (w : Whole) (v : BlocksView) (b : ℕ) (B : CellsView) (x : Direction) (j : ℕ) → IsAt w v b B → IsRow w x true b j → (border_in B j).capacity ≡ (arc_at v.net x.arc).capacity
border_capacity w v b B x j at row =
    ap (λ (q : Border). q.capacity) (border_is w v b B x j at row)
    ∙ ((at.laid.placed.borders x row.direction row.outer).capacity ∙ ap (λ (q : BlocksView). (arc_at q.net x.arc).capacity) at.view)

-- the name of a border direction, and of the one against it
pub border_names : (w : Whole) (v : BlocksView) (b : ℕ) (B : CellsView) (x : Direction) (j : ℕ) → IsAt w v b B → IsRow w x true b j → (border_in B j).direction ≡ x
border_names w v b B x j at row = ap (λ (q : Border). q.direction) (border_is w v b B x j at row) ∙ (at.laid.placed.borders x row.direction row.outer).direction

pub back_names : (w : Whole) (v : BlocksView) (b : ℕ) (B : CellsView) (x : Direction) (j : ℕ) → IsAt w v b B → IsRow w (opposite x) true b j → opposite (border_in B j).direction ≡ x
back_names w v b B x j at row = ap opposite (border_names w v b B (opposite x) j at row) ∙ opposite_twice x

-- the place of the far node, and the slot of the opposite direction
pub lane_far : (w : Whole) (v : BlocksView) (b : ℕ) (B : CellsView) (x : Direction) (j : ℕ) → IsAt w v b B → IsRow w x false b j → (lane_in B j).far ≡ place w (far w.net x)
lane_far w v b B x j at row = ap (λ (q : InnerLane). q.far) (lane_is w v b B x j at row) ∙ (at.laid.placed.inner x row.direction row.outer).far

pub lane_opposite : (w : Whole) (v : BlocksView) (b : ℕ) (B : CellsView) (x : Direction) (j : ℕ) → IsAt w v b B → IsRow w x false b j → (lane_in B j).opposite ≡ slot w (opposite x)
lane_opposite w v b B x j at row = ap (λ (q : InnerLane). q.opposite) (lane_is w v b B x j at row) ∙ (at.laid.placed.inner x row.direction row.outer).opposite

-- ---- the spots and rows that a row leads to

not_false : (t : Bool) → not t ≡ false → t ≡ true
not_false true h = refl
not_false false h = sym h

same_blocks : (a b : ℕ) → not (eqb a b) ≡ false → a ≡ b
same_blocks a b h = eqb-true a b (not_false (eqb a b) h)

-- the row of a direction, where it is known whether it leads to another block
pub row_as : (w : Whole) (v : BlocksView) (b : ℕ) (B : CellsView) (x : Direction) (leaves : Bool) (j : ℕ) → IsAt w v b B → IsRow w x (is_outer w x) b j → core.is_border v.net v.blocks x ≡ leaves
    → IsRow w x leaves b j
row_as w v b B x leaves j at row e =
    subst (λ (o : Bool). IsRow w x o b j) (ap (λ (q : BlocksView). core.is_border q.net q.blocks x) at.view ∙ e) row

-- the spot of the near end of a direction, whose block and place were found apart
pub spot_as : (w : Whole) (v : BlocksView) (b : ℕ) (B : CellsView) (x : Direction) (leaves : Bool) (j n c p : ℕ) → IsAt w v b B → IsRow w x leaves b j → n ≡ near w.net x → IsSpot w n c p
    → IsSpot w (near v.net x) b p
spot_as w v b B x leaves j n c p at row e spot =
    let here : IsSpot w (near w.net x) b p = record {
      node = near_in w.net x at.laid.net row.direction;
      node_block = row.node_block;
      place = ap (place w) (sym e) ∙ spot.place;
      block = row.block;
    } in
    subst (λ (q : BlocksView). IsSpot w (near q.net x) b p) at.view here

pub border_spot : (w : Whole) (v : BlocksView) (b : ℕ) (B : CellsView) (x : Direction) (j : ℕ) → IsAt w v b B → IsRow w x true b j → IsSpot w (near v.net x) b (border_in B j).near
border_spot w v b B x j at row =
    let here : IsSpot w (near w.net x) b (border_in B j).near = record {
      node = near_in w.net x at.laid.net row.direction;
      node_block = row.node_block;
      place = sym (ap (λ (q : Border). q.near) (border_is w v b B x j at row) ∙ (at.laid.placed.borders x row.direction row.outer).near);
      block = row.block;
    } in
    subst (λ (q : BlocksView). IsSpot w (near q.net x) b (border_in B j).near) at.view here

-- the spot of the far end, seen from the opposite direction
pub back_spot : (w : Whole) (v : BlocksView) (b : ℕ) (B : CellsView) (x : Direction) (j : ℕ) → IsAt w v b B → IsRow w (opposite x) true b j → IsSpot w (far v.net x) b (border_in B j).near
back_spot w v b B x j at row =
    subst (λ n. IsSpot w n b (border_in B j).near) (near_opposite v.net x) (border_spot w v b B (opposite x) j at row)

pub far_spot : (w : Whole) (v : BlocksView) (b : ℕ) (B : CellsView) (x : Direction) (j : ℕ) → IsAt w v b B → IsRow w x false b j → IsSpot w (far v.net x) b (lane_in B j).far
far_spot w v b B x j at row =
    let here : IsSpot w (far w.net x) b (lane_in B j).far = record {
      node = far_in w.net x at.laid.net row.direction;
      node_block = sym (same_blocks (node_block w (near w.net x)) (node_block w (far w.net x)) row.outer) ∙ row.node_block;
      place = sym (lane_far w v b B x j at row);
      block = row.block;
    } in
    subst (λ (q : BlocksView). IsSpot w (far q.net x) b (lane_in B j).far) at.view here

pub back_row : (w : Whole) (v : BlocksView) (b : ℕ) (B : CellsView) (x : Direction) (j : ℕ) → IsAt w v b B → IsRow w x false b j → IsRow w (opposite x) false b (lane_in B j).opposite
back_row w v b B x j at row = record {
  direction = row.direction;
  outer = border_opposite w.net (length w.blocks) x ∙ row.outer;
  node_block = ap (node_block w) (near_opposite w.net x) ∙ (sym (same_blocks (node_block w (near w.net x)) (node_block w (far w.net x)) row.outer) ∙ row.node_block);
  slot = sym (lane_opposite w v b B x j at row);
  block = row.block;
}

-- a direction within a block does not lead to the node's own place, where its ends are two nodes
pub far_other : (w : Whole) (v : BlocksView) (b : ℕ) (B : CellsView) (x : Direction) (j p : ℕ) → IsAt w v b B → IsRow w x false b j → IsSpot w (near v.net x) b p
    → (near v.net x ≡ far v.net x → ⊥) → (lane_in B j).far ≡ p → ⊥
far_other w v b B x j p at row spot off same =
    let away = far_spot w v b B x j at row in
    off (same_spot w (near v.net x) (far v.net x) b p at.laid.placed spot (record { node = away.node; node_block = away.node_block; place = away.place ∙ same; block = away.block }))

-- ---- how much goes, and the parcel that it goes in

pub given_amount : (w : Whole) (v : BlocksView) (b : ℕ) (B : CellsView) (u p : ℕ) → IsAt w v b B → IsSpot w u b p
    → min (excess_in B p) (room_in B p) ≡ min (slice_index v.excess u) (slice_index v.rooms u)
given_amount w v b B u p at spot = rw (excess_read w v b B u p at spot, room_read w v b B u p at spot) refl

pub pushed_amount : (w : Whole) (v : BlocksView) (b : ℕ) (B : CellsView) (x : Direction) (j p : ℕ) → IsAt w v b B → IsRow w x false b j → IsSpot w (near v.net x) b p
    → min (excess_in B p) (lane_in B j).residual ≡ min (slice_index v.excess (near v.net x)) (core.lane_at v.lanes x).residual
pushed_amount w v b B x j p at row spot =
    let residual : (lane_in B j).residual ≡ (core.lane_at v.lanes x).residual = ap (λ (q : Lane). q.residual) (inner_read w v b B x j at row) in
    rw (excess_read w v b B (near v.net x) p at spot, residual) refl

pub sent_amount : (w : Whole) (v : BlocksView) (b : ℕ) (B : CellsView) (x : Direction) (j p : ℕ) → IsAt w v b B → IsRow w x true b j → IsSpot w (near v.net x) b p
    → min (excess_in B p) (border_in B j).residual ≡ min (slice_index v.excess (near v.net x)) (core.lane_at v.lanes x).residual
sent_amount w v b B x j p at row spot =
    let residual : (border_in B j).residual ≡ (core.lane_at v.lanes x).residual = ap (λ (q : Lane). q.residual) (border_read w v b B x j at row) in
    rw (excess_read w v b B (near v.net x) p at spot, residual) refl

pub sent_parcel : (w : Whole) (v : BlocksView) (b : ℕ) (B : CellsView) (x : Direction) (j p : ℕ) → IsAt w v b B → IsRow w x true b j → IsSpot w (near v.net x) b p
    → parcel_of B p j ≡ Parcel x (min (slice_index v.excess (near v.net x)) (core.lane_at v.lanes x).residual) (slice_index v.labels (near v.net x))
sent_parcel w v b B x j p at row spot =
    rw (border_names w v b B x j at row, sent_amount w v b B x j p at row spot, label_read w v b B (near v.net x) p at spot) refl

pub out_same : (f : Option Flight) → out_of f ≡ amount_out f
out_same (Some f) = refl
out_same None = refl

-- ---- one list written

abbrev view_of : Network → ℕ → List ℕ → List ℕ → List ℕ → core.Lanes → BlocksView
view_of net blocks excess labels rooms lanes = record { net = net; blocks = blocks; excess = excess; labels = labels; rooms = rooms; lanes = lanes }

same_view : (n n' : Network) (k k' : ℕ) (e e' l l' r r' : List ℕ) (q q' : core.Lanes) → n ≡ n' → k ≡ k' → e ≡ e' → l ≡ l' → r ≡ r' → q ≡ q'
    → view_of n k e l r q ≡ view_of n' k' e' l' r' q'
same_view n n' k k' e e' l l' r r' q q' e1 e2 e3 e4 e5 e6 = rw (e1, e2, e3, e4, e5, e6) refl

module _ (w : Whole) (v : BlocksView) (b : ℕ) (B : CellsView) (at : IsAt w v b B) (new : CellsView) where
  keep_numbers : (f : CellsView → List ℕ) → f new ≡ f B → numbers f (put_block w b new) ≡ numbers f w
  keep_numbers f e = numbers_same f w b new at.block (e ∙ ap f (sym at.is))

  keep_excess : new.excess ≡ B.excess → (blocks_in (put_block w b new)).excess ≡ v.excess
  keep_excess e = keep_numbers (λ (q : CellsView). q.excess) e ∙ ap (λ (q : BlocksView). q.excess) at.view

  keep_labels : new.labels ≡ B.labels → (blocks_in (put_block w b new)).labels ≡ v.labels
  keep_labels e = keep_numbers (λ (q : CellsView). q.labels) e ∙ ap (λ (q : BlocksView). q.labels) at.view

  keep_rooms : new.rooms ≡ B.rooms → (blocks_in (put_block w b new)).rooms ≡ v.rooms
  keep_rooms e = keep_numbers (λ (q : CellsView). q.rooms) e ∙ ap (λ (q : BlocksView). q.rooms) at.view

  keep_lanes : new.lanes ≡ B.lanes → new.borders ≡ B.borders → (blocks_in (put_block w b new)).lanes ≡ v.lanes
  keep_lanes lanes borders =
      lanes_keep w b new at.block (lanes ∙ ap (λ (q : CellsView). q.lanes) (sym at.is)) (borders ∙ ap (λ (q : CellsView). q.borders) (sym at.is))
      ∙ ap (λ (q : BlocksView). q.lanes) at.view

  put_numbers : (f : CellsView → List ℕ) (u p y : ℕ) → IsSpot w u b p → p < length (f B) → f new ≡ set (f B) p y → numbers f (put_block w b new) ≡ set (numbers f w) u y
  put_numbers f u p y spot lp e =
      numbers_set f w u b p y new at.laid.placed spot (subst (λ (q : CellsView). p < length (f q)) (sym at.is) lp)
      (e ∙ ap (λ (q : CellsView). set (f q) p y) (sym at.is))

  stepped : IsLike B new → (e l r : List ℕ) (q : core.Lanes) → (blocks_in (put_block w b new)).excess ≡ e → (blocks_in (put_block w b new)).labels ≡ l
      → (blocks_in (put_block w b new)).rooms ≡ r → (blocks_in (put_block w b new)).lanes ≡ q
      → IsAt (put_block w b new) (record v { excess = e; labels = l; rooms = r; lanes = q }) b new
  stepped like e l r q e1 e2 e3 e4 = record {
    laid = laid_put w b new at.laid at.block (subst (λ (o : CellsView). IsLike o new) (sym at.is) like);
    view = same_view _ _ _ _ _ _ _ _ _ _ _ _ (ap (λ (o : BlocksView). o.net) at.view) (length-set w.blocks b new ∙ ap (λ (o : BlocksView). o.blocks) at.view) e1 e2 e3 e4;
    block = omega (arith, at.block, length-set w.blocks b new);
    is = block_same w b new at.block;
  }

-- ---- blocks that are alike

like_excess : (B : CellsView) (p e : ℕ) → IsLike B (record B { excess = set B.excess p e })
like_excess B p e = record {
  top = refl;
  count = length-set B.excess p e;
  labels_len = refl;
  starts = refl;
  border_starts = refl;
  lanes_len = refl;
  borders_len = refl;
  far = λ j. refl;
  lane_opposite = λ j. refl;
  direction = λ j. refl;
  near = λ j. refl;
  to = λ j. refl;
  opposite = λ j. refl;
  capacity = λ j. refl;
}

like_numbers : (B : CellsView) (l r : List ℕ) → length l ≡ length B.labels → IsLike B (record B { labels = l; rooms = r })
like_numbers B l r len = record {
  top = refl;
  count = refl;
  labels_len = len;
  starts = refl;
  border_starts = refl;
  lanes_len = refl;
  borders_len = refl;
  far = λ j. refl;
  lane_opposite = λ j. refl;
  direction = λ j. refl;
  near = λ j. refl;
  to = λ j. refl;
  opposite = λ j. refl;
  capacity = λ j. refl;
}

like_lane : (B : CellsView) (j : ℕ) (lane : InnerLane) → j < length B.lanes → lane.far ≡ (lane_in B j).far → lane.opposite ≡ (lane_in B j).opposite → IsLike B (record B { lanes = set B.lanes j lane })
like_lane B j lane l far' opposite' = record {
  top = refl;
  count = refl;
  labels_len = refl;
  starts = refl;
  border_starts = refl;
  lanes_len = length-set B.lanes j lane;
  borders_len = refl;
  far = λ i. set_other (λ (q : InnerLane). q.far) B.lanes j lane i no_row l far';
  lane_opposite = λ i. set_other (λ (q : InnerLane). q.opposite) B.lanes j lane i no_row l opposite';
  direction = λ i. refl;
  near = λ i. refl;
  to = λ i. refl;
  opposite = λ i. refl;
  capacity = λ i. refl;
}

-- the same direction with the same ends
record IsSameBorder (x y : Border) : Type 0 where
  pub direction : y.direction ≡ x.direction
  pub near : y.near ≡ x.near
  pub to : y.to ≡ x.to
  pub opposite : y.opposite ≡ x.opposite
  pub capacity : y.capacity ≡ x.capacity

like_border : (B : CellsView) (j : ℕ) (border : Border) → j < length B.borders → IsSameBorder (border_in B j) border → IsLike B (record B { borders = set B.borders j border })
like_border B j border l same = record {
  top = refl;
  count = refl;
  labels_len = refl;
  starts = refl;
  border_starts = refl;
  lanes_len = refl;
  borders_len = length-set B.borders j border;
  far = λ i. refl;
  lane_opposite = λ i. refl;
  direction = λ i. set_other (λ (q : Border). q.direction) B.borders j border i no_border l same.direction;
  near = λ i. set_other (λ (q : Border). q.near) B.borders j border i no_border l same.near;
  to = λ i. set_other (λ (q : Border). q.to) B.borders j border i no_border l same.to;
  opposite = λ i. set_other (λ (q : Border). q.opposite) B.borders j border i no_border l same.opposite;
  capacity = λ i. set_other (λ (q : Border). q.capacity) B.borders j border i no_border l same.capacity;
}

-- ---- one write

module _ (w : Whole) (v : BlocksView) (b : ℕ) (B : CellsView) (at : IsAt w v b B) where
  excess_step : (u p e : ℕ) → IsSpot w u b p → IsAt (put_block w b (record B { excess = set B.excess p e })) (record v { excess = set v.excess u e }) b (record B { excess = set B.excess p e })
  excess_step u p e spot =
      let new : CellsView = record B { excess = set B.excess p e } in
      stepped w v b B at new (like_excess B p e) (set v.excess u e) v.labels v.rooms v.lanes
      (put_numbers w v b B at new (λ (q : CellsView). q.excess) u p e spot (node_below w v b B u p at spot) refl ∙ ap (λ (q : BlocksView). set q.excess u e) at.view)
      (keep_labels w v b B at new refl) (keep_rooms w v b B at new refl) (keep_lanes w v b B at new refl refl)

  labels_step : (u p d : ℕ) → IsSpot w u b p → p < length B.labels → IsAt (put_block w b (record B { labels = set B.labels p d })) (record v { labels = set v.labels u d }) b (record B { labels = set B.labels p d })
  labels_step u p d spot l =
      let new : CellsView = record B { labels = set B.labels p d } in
      stepped w v b B at new (like_numbers B (set B.labels p d) B.rooms (length-set B.labels p d)) v.excess (set v.labels u d) v.rooms v.lanes (keep_excess w v b B at new refl)
      (put_numbers w v b B at new (λ (q : CellsView). q.labels) u p d spot l refl ∙ ap (λ (q : BlocksView). set q.labels u d) at.view)
      (keep_rooms w v b B at new refl) (keep_lanes w v b B at new refl refl)

  rooms_step : (u p r : ℕ) → IsSpot w u b p → p < length B.rooms → IsAt (put_block w b (record B { rooms = set B.rooms p r })) (record v { rooms = set v.rooms u r }) b (record B { rooms = set B.rooms p r })
  rooms_step u p r spot l =
      let new : CellsView = record B { rooms = set B.rooms p r } in
      stepped w v b B at new (like_numbers B B.labels (set B.rooms p r) refl) v.excess v.labels (set v.rooms u r) v.lanes (keep_excess w v b B at new refl)
      (keep_labels w v b B at new refl)
      (put_numbers w v b B at new (λ (q : CellsView). q.rooms) u p r spot l refl ∙ ap (λ (q : BlocksView). set q.rooms u r) at.view)
      (keep_lanes w v b B at new refl refl)

  lane_step : (x : Direction) (j : ℕ) (lane : InnerLane) → IsRow w x false b j → lane.far ≡ (lane_in B j).far → lane.opposite ≡ (lane_in B j).opposite
      → IsAt (put_block w b (record B { lanes = set B.lanes j lane })) (record v { lanes = core.put_lane v.lanes x (shown_lane lane) }) b (record B { lanes = set B.lanes j lane })
  lane_step x j lane row far' opposite' =
      let new : CellsView = record B { lanes = set B.lanes j lane } in
      let l = lane_below w v b B x j at row in
      stepped w v b B at new (like_lane B j lane l far' opposite') v.excess v.labels v.rooms (core.put_lane v.lanes x (shown_lane lane))
      (keep_excess w v b B at new refl) (keep_labels w v b B at new refl) (keep_rooms w v b B at new refl)
      (lane_shown w x b j new lane at.laid.placed row (subst (λ (q : CellsView). j < length q.lanes) (sym at.is) l) (ap (λ (q : CellsView). set q.lanes j lane) (sym at.is)) (ap (λ (q : CellsView). q.borders) (sym at.is))
      ∙ ap (λ (q : BlocksView). core.put_lane q.lanes x (shown_lane lane)) at.view)

  border_step : (x : Direction) (j : ℕ) (border : Border) → IsRow w x true b j → IsSameBorder (border_in B j) border
      → IsAt (put_block w b (record B { borders = set B.borders j border })) (record v { lanes = core.put_lane v.lanes x (shown_border border) }) b (record B { borders = set B.borders j border })
  border_step x j border row same =
      let new : CellsView = record B { borders = set B.borders j border } in
      let l = border_below w v b B x j at row in
      stepped w v b B at new (like_border B j border l same) v.excess v.labels v.rooms (core.put_lane v.lanes x (shown_border border))
      (keep_excess w v b B at new refl) (keep_labels w v b B at new refl) (keep_rooms w v b B at new refl)
      (border_shown w x b j new border at.laid.placed row (subst (λ (q : CellsView). j < length q.borders) (sym at.is) l) (ap (λ (q : CellsView). set q.borders j border) (sym at.is)) (ap (λ (q : CellsView). q.lanes) (sym at.is))
      ∙ ap (λ (q : BlocksView). core.put_lane q.lanes x (shown_border border)) at.view)

-- ---- several writes to one block

put_twice : (w : Whole) (b : ℕ) (one two : CellsView) → put_block (put_block w b one) b two ≡ put_block w b two
put_twice w b one two = ap (λ (q : List CellsView). record w { blocks = q }) (set-set w.blocks b one two)

joined : (w : Whole) (b : ℕ) (one two : CellsView) (v : BlocksView) → IsAt (put_block (put_block w b one) b two) v b two → IsAt (put_block w b two) v b two
joined w b one two v at = subst (λ (q : Whole). IsAt q v b two) (put_twice w b one two) at

seen_as : (w : Whole) (v v' : BlocksView) (b : ℕ) (B : CellsView) → v ≡ v' → IsAt w v b B → IsAt w v' b B
seen_as w v v' b B e at = subst (λ (q : BlocksView). IsAt w q b B) e at

-- ---- the calls of a block

pub gave_at : (w : Whole) (v : BlocksView) (b : ℕ) (B : CellsView) (u p a : ℕ) → IsAt w v b B → IsSpot w u b p → p < length B.rooms
    → IsAt (put_block w b (block.cells_after_sink_push B p a)) (blocks_after_sink_push v u a) b (block.cells_after_sink_push B p a)
gave_at w v b B u p a at spot l =
    let e = excess_in B p - a in
    let r = room_in B p - a in
    let one : CellsView = record B { excess = set B.excess p e } in
    let first = excess_step w v b B at u p e spot in
    let second = rooms_step (put_block w b one) _ b one first u p r (spot_put w u b p b one spot) l in
    seen_as _ _ (blocks_after_sink_push v u a) b _ (rw (excess_read w v b B u p at spot, room_read w v b B u p at spot) refl) (joined w b one (block.cells_after_sink_push B p a) _ second)

pub labelled_at : (w : Whole) (v : BlocksView) (b : ℕ) (B : CellsView) (u p d : ℕ) → IsAt w v b B → IsSpot w u b p → p < length B.labels
    → IsAt (put_block w b (block.cells_after_relabel B p d)) (blocks_after_relabel v u d) b (block.cells_after_relabel B p d)
labelled_at w v b B u p d at spot l = labels_step w v b B at u p d spot l

pub sent_at : (w : Whole) (v : BlocksView) (b : ℕ) (B : CellsView) (x : Direction) (j p a : ℕ) → IsAt w v b B → IsRow w x true b j → IsSpot w (near v.net x) b p
    → IsAt (put_block w b (block.cells_after_send B p j a)) (blocks_after_send v x a) b (block.cells_after_send B p j a)
sent_at w v b B x j p a at row spot =
    let u = near v.net x in
    let e = excess_in B p - a in
    let one : CellsView = record B { excess = set B.excess p e } in
    let first = excess_step w v b B at u p e spot in
    let new : Border = record (border_in B j) { residual = (border_in B j).residual - a; flight = Some (record { amount = a; label = label_in B p }) } in
    let second = border_step (put_block w b one) _ b one first x j new (row_put w x true b j b one row) (record { direction = refl; near = refl; to = refl; opposite = refl; capacity = refl }) in
    let lane = border_read w v b B x j at row in
    seen_as _ _ (blocks_after_send v x a) b _ (rw (excess_read w v b B u p at spot, label_read w v b B u p at spot, ← lane) refl) (joined w b one (block.cells_after_send B p j a) _ second)

pub delivered_at : (w : Whole) (v : BlocksView) (b : ℕ) (B : CellsView) (x : Direction) (j : ℕ) → IsAt w v b B → IsRow w x true b j
    → IsAt (put_block w b (block.cells_after_delivery B j)) (blocks_after_delivery v x) b (block.cells_after_delivery B j)
delivered_at w v b B x j at row =
    let new : Border = record (border_in B j) { flight = None } in
    let first = border_step w v b B at x j new row (record { direction = refl; near = refl; to = refl; opposite = refl; capacity = refl }) in
    seen_as _ _ (blocks_after_delivery v x) b _ (rw (← border_read w v b B x j at row) refl) first

pub informed_at : (w : Whole) (v : BlocksView) (b : ℕ) (B : CellsView) (x : Direction) (j d : ℕ) → IsAt w v b B → IsRow w x true b j
    → IsAt (put_block w b (block.cells_with_known B j d)) (record v { lanes = core.put_lane v.lanes x (record (core.lane_at v.lanes x) { known = d }) }) b (block.cells_with_known B j d)
informed_at w v b B x j d at row =
    let new : Border = record (border_in B j) { known = d } in
    let first = border_step w v b B at x j new row (record { direction = refl; near = refl; to = refl; opposite = refl; capacity = refl }) in
    seen_as _ _ _ b _ (rw (← border_read w v b B x j at row) refl) first

pub returned_at : (w : Whole) (v : BlocksView) (b : ℕ) (B : CellsView) (x : Direction) (j a told : ℕ) → IsAt w v b B → IsRow w x true b j → IsSpot w (near v.net x) b (border_in B j).near
    → IsAt (put_block w b (block.cells_after_return B j a told)) (blocks_after_return v x a told) b (block.cells_after_return B j a told)
returned_at w v b B x j a told at row spot =
    let u = near v.net x in
    let p = (border_in B j).near in
    let e = excess_in B p + a in
    let one : CellsView = record B { excess = set B.excess p e } in
    let first = excess_step w v b B at u p e spot in
    let new : Border = record (border_in B j) { residual = (border_in B j).residual + a; known = told; flight = None } in
    let second = border_step (put_block w b one) _ b one first x j new (row_put w x true b j b one row) (record { direction = refl; near = refl; to = refl; opposite = refl; capacity = refl }) in
    let lane = border_read w v b B x j at row in
    seen_as _ _ (blocks_after_return v x a told) b _ (rw (excess_read w v b B u p at spot, ← lane) refl) (joined w b one (block.cells_after_return B j a told) _ second)

-- the parcel of x is taken at the slot of its opposite
pub accepted_at : (w : Whole) (v : BlocksView) (b : ℕ) (B : CellsView) (x : Direction) (j a d : ℕ) → IsAt w v b B → IsRow w (opposite x) true b j → IsSpot w (far v.net x) b (border_in B j).near
    → IsAt (put_block w b (block.cells_after_accept B j a d)) (blocks_after_accept v x a d) b (block.cells_after_accept B j a d)
accepted_at w v b B x j a d at row spot =
    let u = far v.net x in
    let p = (border_in B j).near in
    let e = excess_in B p + a in
    let one : CellsView = record B { excess = set B.excess p e } in
    let first = excess_step w v b B at u p e spot in
    let old = border_in B j in
    let new : Border = record old { residual = old.residual + a; known = cond (is_some old.flight) old.known (max old.known d) } in
    let second = border_step (put_block w b one) _ b one first (opposite x) j new (row_put w (opposite x) true b j b one row) (record { direction = refl; near = refl; to = refl; opposite = refl; capacity = refl }) in
    let lane = border_read w v b B (opposite x) j at row in
    seen_as _ _ (blocks_after_accept v x a d) b _ (rw (excess_read w v b B u p at spot, ← lane) refl) (joined w b one (block.cells_after_accept B j a d) _ second)

-- a push within a block: the far end's place and the opposite's slot stand in the lane
pub pushed_at : (w : Whole) (v : BlocksView) (b : ℕ) (B : CellsView) (x : Direction) (j p a : ℕ) → IsAt w v b B → IsRow w x false b j → IsSpot w (near v.net x) b p
    → IsRow w (opposite x) false b (lane_in B j).opposite → IsSpot w (far v.net x) b (lane_in B j).far
    → IsAt (put_block w b (block.cells_after_push B p j a)) (blocks_after_push v x a) b (block.cells_after_push B p j a)
pushed_at w v b B x j p a at row spot back away =
    let u = near v.net x in
    let t = far v.net x in
    let q = (lane_in B j).far in
    let o = (lane_in B j).opposite in
    let e = excess_in B p - a in
    let one : CellsView = record B { excess = set B.excess p e } in
    let w1 = put_block w b one in
    let at1 = excess_step w v b B at u p e spot in
    let away1 = spot_put w t b q b one away in
    let e2 = excess_in one q + a in
    let two : CellsView = record one { excess = set one.excess q e2 } in
    let w2 = put_block w1 b two in
    let at2 = excess_step w1 _ b one at1 t q e2 away1 in
    let row2 = row_put w1 x false b j b two (row_put w x false b j b one row) in
    let lane : InnerLane = record (lane_in B j) { residual = (lane_in B j).residual - a } in
    let three : CellsView = record two { lanes = set two.lanes j lane } in
    let w3 = put_block w2 b three in
    let at3 = lane_step w2 _ b two at2 x j lane row2 refl refl in
    let back3 = row_put w2 (opposite x) false b o b three (row_put w1 (opposite x) false b o b two (row_put w (opposite x) false b o b one back)) in
    let lane' : InnerLane = record (lane_in three o) { residual = (lane_in three o).residual + a } in
    let at4 = lane_step w3 _ b three at3 (opposite x) o lane' back3 refl refl in
    let joined4 = joined w b one (block.cells_after_push B p j a) _ (joined w1 b two (block.cells_after_push B p j a) _ (joined w2 b three (block.cells_after_push B p j a) _ at4)) in
    let read1 = excess_read w v b B u p at spot in
    let read2 = excess_read w1 _ b one t q at1 away1 in
    let read3 = inner_read w v b B x j at row in
    let read4 = inner_read w3 _ b three (opposite x) o at3 back3 in
    let less = λ (n : ℕ). set v.excess u (n - a) in
    let gone = λ (l : Lane). core.put_lane v.lanes x (record l { residual = l.residual - a }) in
    let come = λ (ls : core.Lanes) (l : Lane). core.put_lane ls (opposite x) (record l { residual = l.residual + a }) in
    let excess : set (set v.excess u e) t e2 ≡ (blocks_after_push v x a).excess =
    ap (λ n. set (set v.excess u e) t (n + a)) read2 ∙ ap (λ n. set (less n) t (slice_index (less n) t + a)) read1 in
    let lanes : come (gone (shown_lane (lane_in B j))) (shown_lane (lane_in three o)) ≡ (blocks_after_push v x a).lanes =
    ap (come (gone (shown_lane (lane_in B j)))) read4 ∙ ap (λ (l : Lane). come (gone l) (core.lane_at (gone l) (opposite x))) read3 in
    let same = ap (λ (xs : List ℕ). record v { excess = xs; lanes = come (gone (shown_lane (lane_in B j))) (shown_lane (lane_in three o)) }) excess
    ∙ ap (λ (ls : core.Lanes). record v { excess = (blocks_after_push v x a).excess; lanes = ls }) lanes in
    seen_as _ _ (blocks_after_push v x a) b _ same joined4
