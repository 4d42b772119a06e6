-- What is kept of each block by itself is kept of all.
use Rattle.std.proofs.Common.{◌≡◌, ℕ, ◌+◌, ◌<◌, Bool, true, false, List, length, slice_index, refl, sym, ◌∙◌, ap, arith}
use Rattle.std.proofs.lemmas.List.{length-set}
use Rattle.block_events.specs.declared.direction.Direction.{Direction}
use Rattle.block_events.specs.Directions.{IsDirection, near, far}
use Rattle.block_events.proofs.Ends.{near_in}
use Rattle.block_net.specs.declared.lanes.InnerLane.{InnerLane}
use Rattle.block_net.specs.declared.lanes.Border.{Border}
use Rattle.block_net.specs.Views.{CellsView, count}
use Rattle.block_net.specs.Whole.{Whole, block_at, node_block, is_outer, IsInnerAt, IsBorderAt, StandsAt, IsPlaced, with_blocks}
use Rattle.net_in_blocks.specs.Views.{IsLaid}
use Rattle.net_in_blocks.proofs.Writing.{block_same}
use Rattle.cut_in_blocks.proofs.Laid.{filled_together}
use Rattle.cut_in_blocks.proofs.Beside.{one, node_block_all, outer_all, node_block_one, outer_one, place_one, with_one, read_one, lane_one, border_one}

module _ (w : Whole) (blocks : List CellsView) (many : length blocks ≡ length w.blocks) (laid : IsLaid w) (each : (b : ℕ) → b < length w.blocks → IsLaid (one w blocks many b)) where
  inner_all : (x : Direction) → IsDirection w.net x → is_outer (with_blocks w blocks) x ≡ false → IsInnerAt (with_blocks w blocks) x
  inner_all x d e =
      let v = near w.net x in
      let b = node_block w v in
      let lb = laid.placed.node_blocks v (near_in w.net x laid.net d) in
      let at = (each b lb).placed.inner x d (sym (outer_one w blocks many b x) ∙ e) in
      let lane = lane_one w blocks many b x lb refl in
      record {
        from = omega (arith, at.from, read_one w blocks many (λ (q : CellsView). q.starts) (λ q. q) b v lb refl);
        below = omega (arith, at.below, read_one w blocks many (λ (q : CellsView). q.starts) (λ q. q + 1) b v lb refl);
        within = omega (arith, at.within, ap (λ (q : CellsView). length q.lanes) (with_one w blocks many b v lb refl));
        far = ap (λ (q : InnerLane). q.far) lane ∙ (at.far ∙ sym (place_one w blocks many b (far w.net x)));
        opposite = ap (λ (q : InnerLane). q.opposite) lane ∙ at.opposite;
      }

  border_all : (x : Direction) → IsDirection w.net x → is_outer (with_blocks w blocks) x ≡ true → IsBorderAt (with_blocks w blocks) x
  border_all x d e =
      let v = near w.net x in
      let b = node_block w v in
      let lb = laid.placed.node_blocks v (near_in w.net x laid.net d) in
      let at = (each b lb).placed.borders x d (sym (outer_one w blocks many b x) ∙ e) in
      let border = border_one w blocks many b x lb refl in
      record {
        from = omega (arith, at.from, read_one w blocks many (λ (q : CellsView). q.border_starts) (λ q. q) b v lb refl);
        below = omega (arith, at.below, read_one w blocks many (λ (q : CellsView). q.border_starts) (λ q. q + 1) b v lb refl);
        within = omega (arith, at.within, ap (λ (q : CellsView). length q.borders) (with_one w blocks many b v lb refl));
        direction = ap (λ (q : Border). q.direction) border ∙ at.direction;
        near = ap (λ (q : Border). q.near) border ∙ (at.near ∙ sym (place_one w blocks many b v));
        to = ap (λ (q : Border). q.to) border ∙ (at.to ∙ sym (node_block_one w blocks many b (far w.net x)));
        opposite = ap (λ (q : Border). q.opposite) border ∙ at.opposite;
        capacity = ap (λ (q : Border). q.capacity) border ∙ at.capacity;
      }

  stands_all : (leaves : Bool) (b v j : ℕ) (x : Direction) → StandsAt (one w blocks many b) leaves v j x → StandsAt (with_blocks w blocks) leaves v j x
  stands_all leaves b v j x at = record {
    direction = at.direction;
    near = at.near;
    outer = outer_one w blocks many b x ∙ at.outer;
    slot = at.slot;
  }

  placed_all : IsPlaced (with_blocks w blocks)
  placed_all = record {
    firsts_len = laid.placed.firsts_len ∙ sym many;
    slots_len = laid.placed.slots_len;
    node_blocks = λ v lv. omega (arith, node_block_all w blocks many v, many, laid.placed.node_blocks v lv);
    firsts = λ v lv. omega (arith, ap (slice_index w.firsts) (node_block_all w blocks many v), laid.placed.firsts v lv);
    places = λ v lv.
        let b = node_block w v in
        let lb = laid.placed.node_blocks v lv in
        omega (arith, place_one w blocks many b v, ap count (with_one w blocks many b v lb refl), (each b lb).placed.places v lv);
    tops = λ b l.
        let lb : b < length w.blocks = omega (arith, l, many) in
        let B = block_at (with_blocks w blocks) b in
        sym (ap (λ (q : CellsView). q.top) (block_same w b B lb)) ∙ (each b lb).placed.tops b (omega (arith, lb, length-set w.blocks b B));
    inner = inner_all;
    borders = border_all;
    apart = λ x y dx dy same here slot. laid.placed.apart x y dx dy
        (sym (outer_all w blocks many x) ∙ (same ∙ outer_all w blocks many y))
        (sym (node_block_all w blocks many (near w.net x)) ∙ (here ∙ node_block_all w blocks many (near w.net y))) slot;
    lanes = λ v j lv from below.
        let b = node_block w v in
        let lb = laid.placed.node_blocks v lv in
        let found = (each b lb).placed.lanes v j lv
        (omega (arith, from, read_one w blocks many (λ (q : CellsView). q.starts) (λ q. q) b v lb refl))
        (omega (arith, below, read_one w blocks many (λ (q : CellsView). q.starts) (λ q. q + 1) b v lb refl)) in
        (found.0, stands_all false b v j found.0 found.1);
    outers = λ v j lv from below.
        let b = node_block w v in
        let lb = laid.placed.node_blocks v lv in
        let found = (each b lb).placed.outers v j lv
        (omega (arith, from, read_one w blocks many (λ (q : CellsView). q.border_starts) (λ q. q) b v lb refl))
        (omega (arith, below, read_one w blocks many (λ (q : CellsView). q.border_starts) (λ q. q + 1) b v lb refl)) in
        (found.0, stands_all true b v j found.0 found.1);
  }

  pub laid_all : IsLaid (with_blocks w blocks)
  laid_all = record {
    net = laid.net;
    arcs = laid.arcs;
    some = omega (arith, many, laid.some);
    few = omega (arith, many, laid.few);
    placed = placed_all;
    filled = filled_together w blocks many (λ b l. (each b (omega (arith, l, many))).filled);
  }
