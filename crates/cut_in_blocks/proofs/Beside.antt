-- All blocks as they came back, beside the blocks of old with one of them alone as it came back:
-- what lies in that block is the same.
use Rattle.std.proofs.Common.{◌≡◌, ℕ, ◌-◌, ◌*◌, ◌/◌, ◌<◌, cond, List, length, slice_index, sym, ◌∙◌, ap}
use Rattle.flow_network.specs.Cut.{nodes}
use Rattle.block_events.specs.declared.direction.Direction.{Direction}
use Rattle.block_events.specs.Directions.{near}
use Rattle.block_events.specs.States as core
use Rattle.block_net.specs.declared.lanes.InnerLane.{InnerLane}
use Rattle.block_net.specs.declared.lanes.Border.{Border}
use Rattle.block_net.specs.Views.{CellsView, lane_in, border_in}
use Rattle.block_net.specs.Whole.{Whole, block_at, block_with, node_block, place, near_node_block, slot, is_outer, lane_of, border_of, shown_lane, shown_border, shown_of, put_block, with_blocks}
use Rattle.net_in_blocks.proofs.Writing.{node_block_put, outer_put, block_same}

module _ (w : Whole) (blocks : List CellsView) (many : length blocks ≡ length w.blocks) where
  -- the blocks of old with block b alone as it came back
  abbrev pub one : ℕ → Whole
  one b = put_block w b (block_at (with_blocks w blocks) b)

  pub node_block_all : (v : ℕ) → node_block (with_blocks w blocks) v ≡ node_block w v
  node_block_all v = ap (λ q. (v * q) / nodes w.net) many

  pub outer_all : (x : Direction) → is_outer (with_blocks w blocks) x ≡ is_outer w x
  outer_all x = ap (λ q. core.is_border w.net q x) many

  pub place_all : (v : ℕ) → place (with_blocks w blocks) v ≡ place w v
  place_all v = ap (λ h. v - slice_index w.firsts h) (node_block_all v)

  pub node_block_one : (b v : ℕ) → node_block (with_blocks w blocks) v ≡ node_block (one b) v
  node_block_one b v = node_block_all v ∙ sym (node_block_put w b (block_at (with_blocks w blocks) b) v)

  pub outer_one : (b : ℕ) (x : Direction) → is_outer (with_blocks w blocks) x ≡ is_outer (one b) x
  outer_one b x = outer_all x ∙ sym (outer_put w b (block_at (with_blocks w blocks) b) x)

  pub place_one : (b v : ℕ) → place (with_blocks w blocks) v ≡ place (one b) v
  place_one b v = ap (λ h. v - slice_index w.firsts h) (node_block_one b v)

  -- the block of a node
  pub with_one : (b v : ℕ) → b < length w.blocks → node_block w v ≡ b → block_with (with_blocks w blocks) v ≡ block_with (one b) v
  with_one b v lb here =
      let B = block_at (with_blocks w blocks) b in
      ap (block_at (with_blocks w blocks)) (node_block_all v ∙ here)
      ∙ sym (ap (block_at (one b)) (node_block_put w b B v ∙ here) ∙ block_same w b B lb)

  -- a number at a node's place, or at the next
  pub read_one : (f : CellsView → List ℕ) (g : ℕ → ℕ) (b v : ℕ) → b < length w.blocks → node_block w v ≡ b
      → slice_index (f (block_with (with_blocks w blocks) v)) (g (place (with_blocks w blocks) v)) ≡ slice_index (f (block_with (one b) v)) (g (place (one b) v))
  read_one f g b v lb here =
      ap (λ (q : CellsView). slice_index (f q) (g (place (with_blocks w blocks) v))) (with_one b v lb here)
      ∙ ap (λ p. slice_index (f (block_with (one b) v)) (g p)) (place_one b v)

  -- a direction, in the block of its near end
  pub lane_one : (b : ℕ) (x : Direction) → b < length w.blocks → near_node_block w x ≡ b → lane_of (with_blocks w blocks) x ≡ lane_of (one b) x
  lane_one b x lb here = ap (λ (q : CellsView). lane_in q (slot w x)) (with_one b (near w.net x) lb here)

  pub border_one : (b : ℕ) (x : Direction) → b < length w.blocks → near_node_block w x ≡ b → border_of (with_blocks w blocks) x ≡ border_of (one b) x
  border_one b x lb here = ap (λ (q : CellsView). border_in q (slot w x)) (with_one b (near w.net x) lb here)

  pub shown_one : (b : ℕ) (x : Direction) → b < length w.blocks → near_node_block w x ≡ b → shown_of (with_blocks w blocks) x ≡ shown_of (one b) x
  shown_one b x lb here =
      let all = with_blocks w blocks in
      ap (λ o. cond o (shown_border (border_of all x)) (shown_lane (lane_of all x))) (outer_one b x)
      ∙ (ap (λ (q : Border). cond (is_outer (one b) x) (shown_border q) (shown_lane (lane_of all x))) (border_one b x lb here)
      ∙ ap (λ (q : InnerLane). cond (is_outer (one b) x) (shown_border (border_of (one b) x)) (shown_lane q)) (lane_one b x lb here))
