-- What a direction can still carry, as its block has it.
use Rattle.std.proofs.Common.{◌≡◌, ◌≢◌, ℕ, ◌+◌, ◌<◌, Bool, true, false, not, List, length, slice_index, get_or, refl, sym, ◌∙◌, ap, inl, inr, arith}
use Rattle.std.proofs.lemmas.Bool.{eq-eqb}
use Rattle.std.proofs.lemmas.Bool.Decides.{eqb_tells}
use Rattle.std.proofs.lemmas.List.{get_or_read}
use Rattle.flow_network.specs.Cut.{Network, nodes}
use Rattle.flow_network.specs.Preflow.{arc_at}
use Rattle.block_events.specs.declared.lane.Lane.{Lane}
use Rattle.block_events.specs.declared.direction.Direction.{Direction}
use Rattle.block_events.specs.Directions.{IsDirection, near, far, backward}
use Rattle.block_events.specs.States as core
use Rattle.block_events.proofs.Ends.{near_in, far_in}
use Rattle.block_events.specs.States.{residual_of, is_border, block_of}
use Rattle.block_net.specs.Views.{CellsView, lane_in, border_in}
use Rattle.block_net.specs.Whole.{Whole, no_block, block_at, node_block, slot, is_outer}
use Rattle.block_split.specs.declared.parts.Parts.{Parts}
use Rattle.block_split.specs.Split.{whole_of}
use Rattle.net_in_blocks.specs.Views.{blocks_in, IsRow}
use Rattle.block_state.specs.Parts.{IsIn}
use Rattle.global_relabel.specs.NodeBlocks.{AreNodeBlocks}
use Rattle.net_in_blocks.proofs.Steps.{IsAt, lane_below, border_below, inner_read, border_read}

module _ (s : core.State) (p : Parts) (is : IsIn s p) (x : Direction) (l : IsDirection s.net x) (b j : ℕ) (B : CellsView) (here : node_block (whole_of s.net p) (near s.net x) ≡ b) (at : slot (whole_of s.net p) x ≡ j) (read : B ≡ block_at (whole_of s.net p) b) where
  abbrev w : Whole
  w = whole_of s.net p

  there : IsAt w (blocks_in w) b B
  there = record {
    laid = is.laid;
    view = refl;
    block = omega (arith, here, is.laid.placed.node_blocks (near s.net x) (near_in s.net x is.laid.net l));
    is = sym read;
  }

  row : (leaves : Bool) → is_outer w x ≡ leaves → IsRow w x leaves b j
  row leaves out = record { direction = l; outer = out; node_block = here; slot = at; block = there.block }

  within : node_block w (far s.net x) ≡ b → is_outer w x ≡ false
  within same = ap not (eq-eqb (node_block w (near s.net x)) (node_block w (far s.net x)) (here ∙ sym same))

  out_of : node_block w (far s.net x) ≢ b → is_outer w x ≡ true
  out_of other = elim (eqb_tells (node_block w (near s.net x)) (node_block w (far s.net x))) [
    | inl same ↦ absurd (other (sym same.1 ∙ here))
    | inr apart ↦ ap not apart.0
  ]

  pub lane_is : node_block w (far s.net x) ≡ b → (j < length B.lanes) × ((lane_in B j).residual ≡ residual_of s x)
  lane_is same =
      let r = row false (within same) in (
        lane_below w (blocks_in w) b B x j there r,
        ap (λ (q : Lane). q.residual) (inner_read w (blocks_in w) b B x j there r) ∙ ap (λ (t : core.State). residual_of t x) is.shown,
      )

  pub border_is : node_block w (far s.net x) ≢ b → (j < length B.borders) × ((border_in B j).residual ≡ residual_of s x)
  border_is other =
      let r = row true (out_of other) in (
        border_below w (blocks_in w) b B x j there r,
        ap (λ (q : Lane). q.residual) (border_read w (blocks_in w) b B x j there r) ∙ ap (λ (t : core.State). residual_of t x) is.shown,
      )

-- the table tells the block of a node
node_block_told : (s : core.State) (p : Parts) (node_blocks : List ℕ) (v : ℕ) → IsIn s p → AreNodeBlocks s.net s.blocks node_blocks → v < nodes s.net
    → node_block (whole_of s.net p) v ≡ slice_index node_blocks v
node_block_told s p node_blocks v is are l =
    ap (λ k. block_of s.net k v) (ap (λ (t : core.State). t.blocks) is.shown) ∙ sym (are.node_block v l)

-- what the block holds of the direction back of an arc, by the table
pub record IsBack (s : core.State) (k from to j : ℕ) (B : CellsView) : Type 0 where
  pub inner : from ≡ to → (j < length B.lanes) × ((lane_in B j).residual ≡ residual_of s (backward k))
  pub outer : from ≢ to → (j < length B.borders) × ((border_in B j).residual ≡ residual_of s (backward k))

pub back_is : (s : core.State) (p : Parts) (node_blocks : List ℕ) (k from to j : ℕ) (net net' : Network) (B : CellsView) → IsIn s p → AreNodeBlocks s.net s.blocks node_blocks
    → k < length s.net.arcs → net ≡ s.net → net' ≡ s.net → from ≡ slice_index node_blocks (arc_at net k).from → to ≡ slice_index node_blocks (arc_at net k).to
    → j ≡ slice_index p.slots.items (length net'.arcs + k) → B ≡ get_or p.blocks.items to B → IsBack s k from to j B
back_is s p node_blocks k from to j net net' B is are l same same' from_is to_is slot_is read =
    let w = whole_of s.net p in
    let x = backward k in
    let near_node_block : node_block w (near s.net x) ≡ to =
    node_block_told s p node_blocks (near s.net x) is are (near_in s.net x is.laid.net l) ∙ (ap (λ (n : Network). slice_index node_blocks (arc_at n k).to) (sym same) ∙ sym to_is) in
    let far_node_block : node_block w (far s.net x) ≡ from =
    node_block_told s p node_blocks (far s.net x) is are (far_in s.net x is.laid.net l) ∙ (ap (λ (n : Network). slice_index node_blocks (arc_at n k).from) (sym same) ∙ sym from_is) in
    let at : slot w x ≡ j = ap (λ (n : Network). slice_index p.slots.items (length n.arcs + k)) (sym same') ∙ sym slot_is in
    let below : to < length p.blocks.items = omega (arith, near_node_block, is.laid.placed.node_blocks (near s.net x) (near_in s.net x is.laid.net l)) in
    let block = get_or_read p.blocks.items to B below read no_block in
    record {
      inner = λ e. lane_is s p is x l to j B near_node_block at block (far_node_block ∙ e);
      outer = λ e. border_is s p is x l to j B near_node_block at block (λ h. e (sym far_node_block ∙ h));
    }

-- where there is one block, it holds the direction back of each arc
pub back_within : (s : core.State) (p : Parts) (k j : ℕ) (net : Network) (B : CellsView) → IsIn s p → s.blocks ≡ 1 → k < length s.net.arcs → net ≡ s.net
    → j ≡ slice_index p.slots.items (length net.arcs + k) → B ≡ get_or p.blocks.items 0 B
    → (0 < length p.blocks.items) × (j < length B.lanes) × ((lane_in B j).residual ≡ residual_of s (backward k))
back_within s p k j net B is one l same slot_is read =
    let w = whole_of s.net p in
    let x = backward k in
    let number : length p.blocks.items ≡ 1 = ap (λ (t : core.State). t.blocks) is.shown ∙ one in
    let near_node_block : node_block w (near s.net x) ≡ 0 = omega (arith, number, is.laid.placed.node_blocks (near s.net x) (near_in s.net x is.laid.net l)) in
    let far_node_block : node_block w (far s.net x) ≡ 0 = omega (arith, number, is.laid.placed.node_blocks (far s.net x) (far_in s.net x is.laid.net l)) in
    let at : slot w x ≡ j = ap (λ (n : Network). slice_index p.slots.items (length n.arcs + k)) (sym same) ∙ sym slot_is in
    let below : 0 < length p.blocks.items = omega (arith, number) in
    let block = get_or_read p.blocks.items 0 B below read no_block in
    let lane = lane_is s p is x l 0 j B near_node_block at block far_node_block in
    (below, lane.0, lane.1)
