-- The blocks that are made keep what blocks keep.
use Rattle.std.proofs.Common.{◌≡◌, ℕ, ◌+◌, ◌-◌, ◌*◌, ◌^◌, ◌<◌, ◌≤◌, Bool, true, false, not, cond, eqb, List, [], ◌∷◌, length, get_or, drop, slice_index, slice_range, map, sum, sum_by, refl, sym, ◌∙◌, ap, subst, arith, All}
use Rattle.std.proofs.lemmas.Bool.Decides.{nat_tests}
use Rattle.std.proofs.lemmas.List.{length-map, length-replicate}
use Rattle.std.proofs.lemmas.List.Elements.{All-map, All-replicate}
use Rattle.std.proofs.lemmas.List.Sums.{sum_by-take-drop, sum_by-take-le, sum_by-cons, get_or-le-sum_by}
use Rattle.sums.specs.Sums.{sum_below}
use Rattle.sums.proofs.SumLemmas.{sum_below-same, sum_below-zero, sum_by-sum_below}
use Rattle.flow_network.specs.Cut.{Network, nodes, IsNet}
use Rattle.flow_network.specs.declared.arc.Arc.{Arc}
use Rattle.flow_network.specs.Preflow.{arc_at}
use Rattle.block_events.specs.declared.direction.Direction.{Direction}
use Rattle.block_events.specs.Directions.{near, far, opposite}
use Rattle.block_events.specs.States.{block_of, is_border}
use Rattle.block_events.specs.Soundness.{first_residual}
use Rattle.block_events.proofs.Ends.{far_in}
use Rattle.block_events.proofs.Lanes.{near_opposite, border_opposite}
use Rattle.block_net.specs.declared.lanes.InnerLane.{InnerLane}
use Rattle.block_net.specs.Views.{IsBlock, IsLane, IsBorder, spare}
use Rattle.block_net.proofs.Tables.{length_table, table_at}
use Rattle.block_split.specs.Split.{ByNode, Rows, inner_rows, outer_rows, CanSplit, directions, direction_in, AreNodeRows, AreGrouped, first_node, span, lane_made, border_made, lanes_made, borders_made, block_from, base_of}
use Rattle.block_split.proofs.Numbers.{is_direction, arc_of_low, arc_of_high, first_low, first_high, node_block_is}
use Rattle.block_split.proofs.Spots.{starts_grow}
use Rattle.block_split.proofs.Spans.{length_range, range_at, StandsIn, slot_of, stands_in, all_in_span, length_span}
use Rattle.block_split.proofs.Once.{sum_of_once, sum_split}

-- ---- a direction of a block

same_blocks : (a b : ℕ) → not (eqb a b) ≡ false → a ≡ b
same_blocks a b h = grind (arith, nat_tests)

pub inner_blocks : (net : Network) (blocks : ℕ) (x : Direction) → is_border net blocks x ≡ false → block_of net blocks (near net x) ≡ block_of net blocks (far net x)
inner_blocks net blocks x h = same_blocks _ _ h

pub far_in_block : (net : Network) (blocks b first next : ℕ) (rows : Rows) (p : ℕ) → first ≡ first_node (nodes net) blocks b → next ≡ first_node (nodes net) blocks (b + 1) → next ≤ nodes net
    → IsNet net → 1 ≤ blocks → StandsIn net blocks false rows first next p
    → (first ≤ far net (direction_in net (slice_index rows.places p))) × (far net (direction_in net (slice_index rows.places p)) < next)
far_in_block net blocks b first next rows p ef en ln h some stands =
    let n = nodes net in
    let x = direction_in net (slice_index rows.places p) in
    let d = is_direction net (slice_index rows.places p) stands.small in
    let lf = far_in net x h d in
    let node_block : block_of net blocks (near net x) ≡ b =
    node_block_is n blocks b (near net x) some (omega (arith, stands.high, ln)) (omega (arith, stands.low, ef)) (omega (arith, stands.high, en)) in
    let away : block_of net blocks (far net x) ≡ b = sym (inner_blocks net blocks x stands.outer) ∙ node_block in
    let low : first_node n blocks b ≤ far net x = subst (λ (c : ℕ). first_node n blocks c ≤ far net x) away (first_low n blocks (far net x) some lf) in
    let high : far net x < first_node n blocks (b + 1) = subst (λ (c : ℕ). far net x < first_node n blocks (c + 1)) away (first_high n blocks (far net x) some lf) in
    (omega (arith, low, ef), omega (arith, high, en))

-- ---- sums

first_le : (back : Bool) (c : ℕ) → cond back 0 c ≤ c
first_le true c = omega arith
first_le false c = omega arith

abbrev capacity_at : Network → ℕ → ℕ
capacity_at net k = (arc_at net k).capacity

pub arcs_total : (net : Network) → sum_by (λ (arc : Arc). arc.capacity) net.arcs ≡ sum_below (length net.arcs) (capacity_at net)
arcs_total net = sum_by-sum_below (λ (arc : Arc). arc.capacity) net.arcs _

twice : (m : ℕ) → 2 * m ≡ m + m
twice m = omega arith

back_again : (m i : ℕ) → m + i - m ≡ i
back_again m i = omega arith

capacity_small : (net : Network) (k : ℕ) → IsNet net → k < length net.arcs → (arc_at net k).capacity < 2 ^ 62
capacity_small net k h l = omega (arith, get_or-le-sum_by (λ (arc : Arc). arc.capacity) net.arcs k (record { from = 0; to = 0; capacity = 0 }) l, h.total)

-- what all directions carry before any flow is all capacities of arcs
residuals_all : (net : Network) → sum_below (2 * length net.arcs) (λ i. first_residual net (direction_in net i)) ≡ sum_by (λ (arc : Arc). arc.capacity) net.arcs
residuals_all net =
    let m = length net.arcs in
    let f = λ (i : ℕ). first_residual net (direction_in net i) in
    let low = sum_below-same m f (capacity_at net) (λ i l. ap (first_residual net) (arc_of_low m i l)) in
    let high = sum_below-same m (λ i. f (m + i)) (λ i. 0) (λ i l. ap (first_residual net) (arc_of_high m (m + i) (omega arith))) in
    ap (λ n. sum_below n f) (twice m) ∙ omega (arith, sum_split m m f, low, high, sum_below-zero m, arcs_total net)

-- and so is what they can not carry
spares_all : (net : Network) → sum_below (2 * length net.arcs) (λ i. (arc_at net (direction_in net i).arc).capacity - first_residual net (direction_in net i)) ≡ sum_by (λ (arc : Arc). arc.capacity) net.arcs
spares_all net =
    let m = length net.arcs in
    let g = λ (x : Direction). (arc_at net x.arc).capacity - first_residual net x in
    let f = λ (i : ℕ). g (direction_in net i) in
    let low = sum_below-same m f (λ i. 0) (λ i l. ap g (arc_of_low m i l) ∙ omega arith) in
    let high = sum_below-same m (λ i. f (m + i)) (capacity_at net) (λ i l. ap g (arc_of_high m (m + i) (omega arith)) ∙ omega (arith, ap (capacity_at net) (back_again m i))) in
    ap (λ n. sum_below n f) (twice m) ∙ omega (arith, sum_split m m f, low, high, sum_below-zero m, arcs_total net)

sum_by_map : {A B : Type 0} (f : B → ℕ) (g : A → B) (xs : List A) → sum_by f (map g xs) ≡ sum_by (λ x. f (g x)) xs
sum_by_map f g [] = refl
sum_by_map f g (x ∷ xs) = omega (arith, sum_by-cons f (g x) (map g xs), sum_by-cons (λ x. f (g x)) x xs, sum_by_map f g xs)

range_sum : (xs : List ℕ) (i j : ℕ) → sum (slice_range xs i j) ≤ sum xs
range_sum xs i j = omega (arith, sum_by-take-le (λ (x : ℕ). x) (drop i xs) (j - i), sum_by-take-drop (λ (x : ℕ). x) xs i)

-- a sum over the rows of a block is within the sum over all directions
span_sum : (net : Network) (blocks : ℕ) (outer : Bool) (rows : Rows) (first next : ℕ) (f : ℕ → ℕ) → AreNodeRows net blocks outer rows → next ≤ nodes net → first ≤ next
    → sum_by f (span rows first next) ≤ sum_below (directions net) f
span_sum net blocks outer rows first next f is ln lf =
    let n = nodes net in
    let i = slice_index rows.starts first in
    let j = slice_index rows.starts next in
    let xs = span rows first next in
    let grow = starts_grow net blocks outer rows is in
    let len = length_span net blocks outer rows first next is ln in
    let at : (p : ℕ) → p < length xs → get_or xs p 0 ≡ slice_index rows.places (i + p) = λ p l. range_at rows.places i j p 0 (omega (arith, l, len)) in
    let low : (p : ℕ) → slice_index rows.starts 0 ≤ i + p = λ p. omega (arith, grow 0 first (omega arith) (omega (arith, lf, ln))) in
    let high : (p : ℕ) → p < length xs → i + p < slice_index rows.starts n = λ p l. omega (arith, l, len, grow next n ln (omega arith)) in
    sum_of_once xs (directions net) f
    (λ p l. omega (arith, at p l, (stands_in net blocks outer rows first next (i + p) is ln lf (omega arith) (omega (arith, l, len))).small))
    (λ p q lp lq e. omega (arith, is.apart (i + p) (i + q) (low p) (high p lp) (low q) (high q lq) (sym (at p lp) ∙ (e ∙ at q lq))))

-- ---- the block

pub block_from_is : (net : Network) (blocks : ℕ) (rows : ByNode) (b first next : ℕ) → IsNet net → CanSplit net blocks → AreGrouped net blocks rows
    → first ≡ first_node (nodes net) blocks b → next ≡ first_node (nodes net) blocks (b + 1) → first ≤ next → next ≤ nodes net → IsBlock (block_from net blocks rows first next)
block_from_is net blocks rows b first next h split is ef en lf ln =
    let n = nodes net in
    let slots = rows.slots in
    let inner_len = length_span net blocks false (inner_rows rows) first next is.inner ln in
    let outer_len = length_span net blocks true (outer_rows (nodes net) rows) first next is.outer ln in
    let excess_len : length (slice_range net.sources first next) ≡ next - first = length_range net.sources first next ln in
    let rooms_len : length (slice_range net.sinks first next) ≡ next - first = length_range net.sinks first next (omega (arith, ln, h.same)) in
    let lanes_len : length (lanes_made net slots first (span (inner_rows rows) first next)) ≡ length (span (inner_rows rows) first next) = length-map _ _ in
    let borders_len : length (borders_made net blocks slots first (span (outer_rows (nodes net) rows) first next)) ≡ length (span (outer_rows (nodes net) rows) first next) = length-map _ _ in
    let lane_is = all_in_span (λ i. IsLane (next - first) (length (span (inner_rows rows) first next)) (lane_made net slots first (direction_in net i))) net blocks false (inner_rows rows) first next is.inner ln lf
    (λ p stands.
    let i = slice_index (inner_rows rows).places p in
    let x = direction_in net i in
    let d = is_direction net i stands.small in
    let away = far_in_block net blocks b first next (inner_rows rows) p ef en ln h split.some stands in
    let y = opposite x in
    let found = slot_of net blocks false (inner_rows rows) slots y h split.some is.inner is.inner_slots d (border_opposite net blocks x ∙ stands.outer) in
    let slot = found.1 in
    let e = near_opposite net x in
    let node_block : block_of net blocks (near net y) ≡ b =
    ap (block_of net blocks) e ∙ node_block_is n blocks b (far net x) split.some (omega (arith, away.1, ln)) (omega (arith, away.0, ef)) (omega (arith, away.1, en)) in
    let base = ap (base_of net blocks (inner_rows rows)) node_block in
    let grow = starts_grow net blocks false (inner_rows rows) is.inner (near net y + 1) next (omega (arith, e, away.1)) (omega (arith, ln)) in
    let base' : base_of net blocks (inner_rows rows) b ≡ slice_index (inner_rows rows).starts first = ap (slice_index (inner_rows rows).starts) (sym ef) in
    record {
      far = omega (arith, away.0, away.1);
      opposite = omega (arith, slot.slot, slot.below, slot.base, base, base', grow, inner_len);
    }) in
    let border_is = all_in_span (λ i. IsBorder (next - first) (n + 2) (border_made net blocks slots first (direction_in net i))) net blocks true (outer_rows (nodes net) rows) first next is.outer ln lf
    (λ p stands.
    let i = slice_index (outer_rows (nodes net) rows).places p in
    let x = direction_in net i in
    let c = (arc_at net x.arc).capacity in
    record {
      near = omega (arith, stands.low, stands.high);
      fits = omega (arith, first_le x.back c);
      known = omega arith;
      small = omega (arith, capacity_small net x.arc h (is_direction net i stands.small));
    }) in
    let residual_sum = sum_by_map (λ (x : InnerLane). x.residual) (λ i. lane_made net slots first (direction_in net i)) (span (inner_rows rows) first next) in
    let residual_most = span_sum net blocks false (inner_rows rows) first next (λ i. first_residual net (direction_in net i)) is.inner ln lf in
    let spare_sum = sum_by_map spare (λ i. border_made net blocks slots first (direction_in net i)) (span (outer_rows (nodes net) rows) first next) in
    let spare_most = span_sum net blocks true (outer_rows (nodes net) rows) first next (λ i. (arc_at net (direction_in net i).arc).capacity - first_residual net (direction_in net i)) is.outer ln lf in
    record {
      top = omega (arith, h.count);
      above = omega arith;
      small = omega (arith, excess_len, ln, h.count);
      labels_len = length-replicate (next - first) 0 ∙ sym excess_len;
      rooms_len = rooms_len ∙ sym excess_len;
      starts_len = length_table (next - first + 1) _ ∙ ap (λ k. k + 1) (sym excess_len);
      border_starts_len = length_table (next - first + 1) _ ∙ ap (λ k. k + 1) (sym excess_len);
      within = λ v l.
          let lv : v ≤ next - first = omega (arith, l, excess_len) in
          let at = table_at (next - first + 1) (λ i. slice_index (inner_rows rows).starts (first + i) - slice_index (inner_rows rows).starts first) v 0 (omega (arith, lv)) in
          omega (arith, at, lanes_len, inner_len, starts_grow net blocks false (inner_rows rows) is.inner (first + v) next (omega (arith, lv, lf)) (omega (arith, ln)));
      border_within = λ v l.
          let lv : v ≤ next - first = omega (arith, l, excess_len) in
          let at = table_at (next - first + 1) (λ i. slice_index (outer_rows (nodes net) rows).starts (first + i) - slice_index (outer_rows (nodes net) rows).starts first) v 0 (omega (arith, lv)) in
          omega (arith, at, borders_len, outer_len, starts_grow net blocks true (outer_rows (nodes net) rows) is.outer (first + v) next (omega (arith, lv, lf)) (omega (arith, ln)));
      labels = All-replicate (λ (d : ℕ). d ≤ n + 2) (next - first) 0 (omega arith);
      lanes =
          let list = lanes_made net slots first (span (inner_rows rows) first next) in
          subst (λ (k : ℕ). All (IsLane k (length list)) list) (sym excess_len)
          (subst (λ (k : ℕ). All (IsLane (next - first) k) list) (sym lanes_len) (All-map (IsLane (next - first) (length (span (inner_rows rows) first next))) (λ i. lane_made net slots first (direction_in net i)) (span (inner_rows rows) first next) lane_is));
      borders =
          subst (λ (k : ℕ). All (IsBorder k (n + 2)) (borders_made net blocks slots first (span (outer_rows (nodes net) rows) first next))) (sym excess_len)
          (All-map (IsBorder (next - first) (n + 2)) (λ i. border_made net blocks slots first (direction_in net i)) (span (outer_rows (nodes net) rows) first next) border_is);
      residuals = omega (arith, residual_sum, residual_most, residuals_all net, h.total);
      total = omega (arith, range_sum net.sources first next, spare_sum, spare_most, spares_all net, h.total);
    }
