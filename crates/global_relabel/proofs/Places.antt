-- What stands at the places of a node: the node at the other end, and what the opposite direction
-- can still carry.
use Rattle.std.proofs.Common.{◌≡◌, ℕ, ◌+◌, ◌<◌, ◌≤◌, Bool, true, false, List, length, slice_index, refl, sym, ◌∙◌, ap, subst, arith}
use Rattle.flow_network.specs.Cut.{nodes}
use Rattle.block_events.specs.declared.lane.Lane.{Lane}
use Rattle.block_events.specs.declared.direction.Direction.{Direction}
use Rattle.block_events.specs.Directions.{IsDirection, near, far, opposite}
use Rattle.block_events.specs.States as core
use Rattle.block_events.proofs.Ends.{near_in, far_in}
use Rattle.block_events.proofs.Lanes.{near_opposite, border_opposite}
use Rattle.block_net.specs.declared.lanes.Border.{Border}
use Rattle.block_net.specs.Views.{CellsView, count, lane_in, border_in, first_lane, first_border}
use Rattle.block_net.specs.Whole.{Whole, block_at, block_with, node_block, place, slot, is_outer, border_of, state_shown, StandsAt}
use Rattle.net_in_blocks.specs.Views.{blocks_in, IsLaid, IsSpot, IsRow}
use Rattle.net_in_blocks.proofs.Steps.{IsAt, lane_below, border_below, inner_read, border_read, far_spot, back_row, back_spot}

-- the number of the node at a place of a block
node_of : (w : Whole) (u b p : ℕ) → IsLaid w → IsSpot w u b p → slice_index w.firsts b + p ≡ u
node_of w u b p laid spot =
    omega (arith, ap (slice_index w.firsts) spot.node_block, spot.place, laid.placed.firsts u spot.node)

-- the block that a node lies in, and what is read there
with_is : (w : Whole) (b : ℕ) (B : CellsView) (u p : ℕ) → block_at w b ≡ B → IsSpot w u b p → block_with w u ≡ B
with_is w b B u p is spot = ap (block_at w) spot.node_block ∙ is

read_at : (w : Whole) (b : ℕ) (B : CellsView) (u p : ℕ) (f : CellsView → List ℕ) (g : ℕ → ℕ) → block_at w b ≡ B → IsSpot w u b p
    → slice_index (f (block_with w u)) (g (place w u)) ≡ slice_index (f B) (g p)
read_at w b B u p f g is spot =
    ap (λ q. slice_index (f (block_with w u)) (g q)) spot.place ∙ ap (λ (q : CellsView). slice_index (f q) (g p)) (with_is w b B u p is spot)

row_of : (w : Whole) (b : ℕ) (leaves : Bool) (u p j : ℕ) (x : Direction) → IsSpot w u b p → StandsAt w leaves u j x → IsRow w x leaves b j
row_of w b leaves u p j x spot stands = record {
  direction = stands.direction;
  outer = stands.outer;
  node_block = ap (node_block w) stands.near ∙ spot.node_block;
  slot = stands.slot;
  block = spot.block;
}

-- ---- a direction within the block

-- the node at place j of node u, a direction x, leads on to the far node, whose opposite direction
-- is in the block
pub record IsLaneEnd (w : Whole) (B : CellsView) (first j : ℕ) (x : Direction) : Type 0 where
  pub stands : first + (lane_in B j).far ≡ far w.net x
  pub node : far w.net x < nodes w.net
  pub back : (lane_in B j).opposite < length B.lanes
  pub residual : (lane_in B (lane_in B j).opposite).residual ≡ (core.lane_at (state_shown w).lanes (opposite x)).residual

lane_end : (w : Whole) (b : ℕ) (B : CellsView) (u p j : ℕ) (x : Direction) → IsAt w (blocks_in w) b B → IsSpot w u b p → StandsAt w false u j x
    → IsLaneEnd w B (slice_index w.firsts b) j x
lane_end w b B u p j x at spot stands =
    let row = row_of w b false u p j x spot stands in
    let away = far_spot w (blocks_in w) b B x j at row in
    let back = back_row w (blocks_in w) b B x j at row in
    record {
      stands = node_of w (far w.net x) b (lane_in B j).far at.laid away;
      node = away.node;
      back = lane_below w (blocks_in w) b B (opposite x) (lane_in B j).opposite at back;
      residual = ap (λ (q : Lane). q.residual) (inner_read w (blocks_in w) b B (opposite x) (lane_in B j).opposite at back);
    }

-- ---- a direction to another block

pub record IsBorderEnd (w : Whole) (border : Border) (x : Direction) : Type 0 where
  pub block : border.to < length w.blocks
  pub back : border.opposite < length (block_at w border.to).borders
  pub stands : slice_index w.firsts border.to + (border_in (block_at w border.to) border.opposite).near ≡ far w.net x
  pub node : far w.net x < nodes w.net
  pub residual : (border_in (block_at w border.to) border.opposite).residual ≡ (core.lane_at (state_shown w).lanes (opposite x)).residual

border_is : (w : Whole) (b : ℕ) (B : CellsView) (x : Direction) (j : ℕ) → block_at w b ≡ B → IsRow w x true b j → border_of w x ≡ border_in B j
border_is w b B x j is row =
    ap (λ (q : CellsView). border_in q (slot w x)) (ap (block_at w) row.node_block ∙ is) ∙ ap (border_in B) row.slot

border_end : (w : Whole) (b : ℕ) (B : CellsView) (u p j : ℕ) (x : Direction) → IsAt w (blocks_in w) b B → IsSpot w u b p → StandsAt w true u j x
    → IsBorderEnd w (border_in B j) x
border_end w b B u p j x at spot stands =
    let row = row_of w b true u p j x spot stands in
    let here = at.laid.placed.borders x stands.direction stands.outer in
    let is = border_is w b B x j at.is row in
    let to : (border_in B j).to ≡ node_block w (far w.net x) = sym (ap (λ (q : Border). q.to) is) ∙ here.to in
    let inside = far_in w.net x at.laid.net stands.direction in
    let below : (border_in B j).to < length w.blocks = omega (arith, to, at.laid.placed.node_blocks (far w.net x) inside) in
    let c = (border_in B j).to in
    let o = (border_in B j).opposite in
    let there : IsAt w (blocks_in w) c (block_at w c) = record { laid = at.laid; view = refl; block = below; is = refl } in
    let back : IsRow w (opposite x) true c o = record {
      direction = stands.direction;
      outer = border_opposite w.net (length w.blocks) x ∙ stands.outer;
      node_block = ap (node_block w) (near_opposite w.net x) ∙ sym to;
      slot = sym here.opposite ∙ ap (λ (q : Border). q.opposite) is;
      block = below;
    } in
    record {
      block = below;
      back = border_below w (blocks_in w) c (block_at w c) (opposite x) o there back;
      stands = node_of w (far w.net x) c (border_in (block_at w c) o).near at.laid (back_spot w (blocks_in w) c (block_at w c) x o there back);
      node = inside;
      residual = ap (λ (q : Lane). q.residual) (border_read w (blocks_in w) c (block_at w c) (opposite x) o there back);
    }

-- ---- the places of a node

module _ (w : Whole) (b : ℕ) (B : CellsView) (u p : ℕ) (at : IsAt w (blocks_in w) b B) (spot : IsSpot w u b p) where
  pub lane_at_place : (j : ℕ) → first_lane B p ≤ j → j < first_lane B (p + 1)
      → (x : Direction) × StandsAt w false u j x × IsLaneEnd w B (slice_index w.firsts b) j x
  lane_at_place j low high =
      let found = at.laid.placed.lanes u j spot.node (omega (arith, low, read_at w b B u p (λ (q : CellsView). q.starts) (λ q. q) at.is spot))
      (omega (arith, high, read_at w b B u p (λ (q : CellsView). q.starts) (λ q. q + 1) at.is spot)) in
      (found.0, found.1, lane_end w b B u p j found.0 at spot found.1)

  pub border_at_place : (j : ℕ) → first_border B p ≤ j → j < first_border B (p + 1)
      → (x : Direction) × StandsAt w true u j x × IsBorderEnd w (border_in B j) x
  border_at_place j low high =
      let found = at.laid.placed.outers u j spot.node (omega (arith, low, read_at w b B u p (λ (q : CellsView). q.border_starts) (λ q. q) at.is spot))
      (omega (arith, high, read_at w b B u p (λ (q : CellsView). q.border_starts) (λ q. q + 1) at.is spot)) in
      (found.0, found.1, border_end w b B u p j found.0 at spot found.1)

  pub lane_place : (x : Direction) → IsDirection w.net x → near w.net x ≡ u → is_outer w x ≡ false
      → (first_lane B p ≤ slot w x) × (slot w x < first_lane B (p + 1))
  lane_place x l leaves out =
      let here : IsSpot w (near w.net x) b p = subst (λ n. IsSpot w n b p) (sym leaves) spot in
      let is = at.laid.placed.inner x l out in (
        omega (arith, is.from, read_at w b B (near w.net x) p (λ (q : CellsView). q.starts) (λ q. q) at.is here),
        omega (arith, is.below, read_at w b B (near w.net x) p (λ (q : CellsView). q.starts) (λ q. q + 1) at.is here),
      )

  pub border_place : (x : Direction) → IsDirection w.net x → near w.net x ≡ u → is_outer w x ≡ true
      → (first_border B p ≤ slot w x) × (slot w x < first_border B (p + 1))
  border_place x l leaves out =
      let here : IsSpot w (near w.net x) b p = subst (λ n. IsSpot w n b p) (sym leaves) spot in
      let is = at.laid.placed.borders x l out in (
        omega (arith, is.from, read_at w b B (near w.net x) p (λ (q : CellsView). q.border_starts) (λ q. q) at.is here),
        omega (arith, is.below, read_at w b B (near w.net x) p (λ (q : CellsView). q.border_starts) (λ q. q + 1) at.is here),
      )

  -- what a direction can carry
  pub lane_residual : (j : ℕ) (x : Direction) → StandsAt w false u j x → (lane_in B j).residual ≡ (core.lane_at (state_shown w).lanes x).residual
  lane_residual j x stands = ap (λ (q : Lane). q.residual) (inner_read w (blocks_in w) b B x j at (row_of w b false u p j x spot stands))

  pub border_residual : (j : ℕ) (x : Direction) → StandsAt w true u j x → (border_in B j).residual ≡ (core.lane_at (state_shown w).lanes x).residual
  border_residual j x stands = ap (λ (q : Lane). q.residual) (border_read w (blocks_in w) b B x j at (row_of w b true u p j x spot stands))

-- ---- the places of a block

module _ (w : Whole) (b : ℕ) (B : CellsView) (at : IsAt w (blocks_in w) b B) where
  -- the opposite of a direction within the block is in the block
  pub lane_back : (p j : ℕ) → p < count B → first_lane B p ≤ j → j < first_lane B (p + 1) → (lane_in B j).opposite < length B.lanes
  lane_back p j lp low high =
      let there = at.laid.filled.nodes b p at.block (omega (arith, lp, ap (λ (q : CellsView). count q) at.is)) in
      let lies = there.1 in
      let spot : IsSpot w there.0 b p = record { node = lies.node; node_block = lies.node_block; place = lies.place; block = at.block } in
      (lane_at_place w b B there.0 p at spot j low high).2.back

  -- a direction to another block has its far end there
  pub border_at_block : (j : ℕ) → j < length B.borders → (x : Direction) × IsBorderEnd w (border_in B j) x
  border_at_block j lj =
      let found = at.laid.filled.borders b j at.block (omega (arith, lj, ap (λ (q : CellsView). length q.borders) at.is)) in
      let x = found.0 in
      let spot : IsSpot w (near w.net x) b (place w (near w.net x)) = record {
        node = near_in w.net x at.laid.net found.2.direction;
        node_block = found.1;
        place = refl;
        block = at.block;
      } in
      (x, border_end w b B (near w.net x) (place w (near w.net x)) j x at spot found.2)
