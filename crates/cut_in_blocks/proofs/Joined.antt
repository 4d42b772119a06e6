-- The state that all blocks show has of each block what it came to.
use Rattle.std.proofs.Common.{◌≡◌, ℕ, ◌+◌, ◌-◌, ◌<◌, List, length, slice_index, refl, sym, ◌∙◌}
use Rattle.sums.specs.Sums.{sum_below}
use Rattle.flow_network.specs.Cut.{nodes}
use Rattle.block_events.specs.declared.direction.Direction.{Direction}
use Rattle.block_events.specs.declared.message.Message.{Message}
use Rattle.block_events.specs.Directions.{IsDirection, forward, backward, near}
use Rattle.block_events.specs.States as core
use Rattle.block_events.proofs.Ends.{near_in}
use Rattle.block_events.specs.Rounds.{IsJoined}
use Rattle.block_net.specs.Views.{CellsView}
use Rattle.block_net.specs.Whole.{Whole, block_with, node_block, place, shown_of, with_blocks}
use Rattle.block_net.proofs.Tables.{length_table, table_at}
use Rattle.block_events.specs.Effects.{state_of}
use Rattle.net_in_blocks.specs.Views.{IsLaid, blocks_in}
use Rattle.net_in_blocks.proofs.Writing.{numbers, lane_read}
use Rattle.cut_in_blocks.specs.Rounds.{quiet_state}
use Rattle.cut_in_blocks.proofs.Beside.{one, read_one, shown_one}

module _ (w : Whole) (blocks : List CellsView) (many : length blocks ≡ length w.blocks) (laid : IsLaid w) where
  -- a number of a node
  number_all : (f : CellsView → List ℕ) (v : ℕ) → v < nodes w.net
      → slice_index (numbers f (with_blocks w blocks)) v ≡ slice_index (numbers f (one w blocks many (node_block w v))) v
  number_all f v lv =
      let b = node_block w v in
      let at = λ (u : Whole) (x : ℕ). slice_index (f (block_with u x)) (place u x) in
      table_at (nodes w.net) (at (with_blocks w blocks)) v 0 lv
      ∙ (read_one w blocks many f (λ q. q) b v (laid.placed.node_blocks v lv) refl
      ∙ sym (table_at (nodes w.net) (at (one w blocks many b)) v 0 lv))

  numbers_len : (f : CellsView → List ℕ) → length (numbers f (with_blocks w blocks)) ≡ nodes w.net
  numbers_len f = length_table (nodes w.net) (λ v. slice_index (f (block_with (with_blocks w blocks) v)) (place (with_blocks w blocks) v))

  lane_all : (x : Direction) → IsDirection w.net x
      → core.lane_at (blocks_in (with_blocks w blocks)).lanes x ≡ core.lane_at (blocks_in (one w blocks many (node_block w (near w.net x)))).lanes x
  lane_all x d =
      let b = node_block w (near w.net x) in
      lane_read (with_blocks w blocks) x d
      ∙ (shown_one w blocks many b x (laid.placed.node_blocks (near w.net x) (near_in w.net x laid.net d)) refl
      ∙ sym (lane_read (one w blocks many b) x d))

  pub blocks_join : (got : ℕ) (logs : ℕ → List (List (List Message))) (gots : ℕ → ℕ) (left : List (List (List Message)))
      → IsJoined (quiet_state w got) (state_of (blocks_in (with_blocks w blocks)) left (got + sum_below (length w.blocks) (λ b. gots b - got)))
      (λ b. state_of (blocks_in (one w blocks many b)) (logs b) (gots b))
  blocks_join got logs gots left = record {
    net = refl;
    blocks = many;
    excess_len = numbers_len (λ q. q.excess);
    labels_len = numbers_len (λ q. q.labels);
    rooms_len = numbers_len (λ q. q.rooms);
    forth_len = length_table (length w.net.arcs) (λ k. shown_of (with_blocks w blocks) (forward k));
    back_len = length_table (length w.net.arcs) (λ k. shown_of (with_blocks w blocks) (backward k));
    excess = number_all (λ q. q.excess);
    labels = number_all (λ q. q.labels);
    rooms = number_all (λ q. q.rooms);
    lanes = lane_all;
    got = refl;
  }
