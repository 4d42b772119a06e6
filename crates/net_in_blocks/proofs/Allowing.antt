-- The highest label by a node's own directions is that by all directions.
use Rattle.std.proofs.Common.{◌≡◌, ℕ, zero, suc, ◌+◌, ◌-◌, ◌<◌, ◌≤◌, Bool, true, false, cond, min, eqb, nat_lt, ◌&&◌, ◌||◌, List, [], length, slice_index, refl, sym, ◌∙◌, ap, subst, inl, inr, arith}
use Rattle.std.specs.Option.{is_some}
use Rattle.std.proofs.lemmas.Bool.{cases_eq, cases_lt, cases_Bool, eq-eqb, ne_eqb}
use Rattle.flow_network.specs.Progress.{top}
use Rattle.block_events.specs.declared.lane.Lane.{Lane}
use Rattle.block_events.specs.declared.direction.Direction.{Direction}
use Rattle.block_events.specs.Directions.{IsDirection, forward, backward, near, far}
use Rattle.block_events.specs.States as core
use Rattle.block_events.specs.Events.{least_below, is_open_direction, allowed_label, highest_label}
use Rattle.block_events.proofs.Allowed.{least-le-start, least-le}
use Rattle.block_net.specs.Views.{CellsView, lane_in, label_in, room_in, first_lane, first_border, least_span, lane_allows, border_allows, highest}
use Rattle.block_net.specs.Whole.{Whole, block_at, block_with, node_block, place, slot, is_outer, StandsAt}
use Rattle.block_events.specs.Effects.{BlocksView, state_of}
use Rattle.net_in_blocks.specs.Views.{IsSpot, IsRow}
use Rattle.net_in_blocks.proofs.Steps.{IsAt, label_read, room_read, top_read, inner_read, border_read, far_spot}

-- ---- the least of a span

span-le-start : (f : ℕ → ℕ) (from n z : ℕ) → least_span f from n z ≤ z
span-le-start f from zero z = omega arith
span-le-start f from (suc n) z = omega (arith, span-le-start f from n z)

span-le : (f : ℕ → ℕ) (from n z k : ℕ) → k < n → least_span f from n z ≤ f (from + k)
span-le f from zero z k l = absurd (omega arith)
span-le f from (suc n) z k l = elim (cases_lt k n) [
  | inl below ↦ omega (arith, span-le f from n z k below)
  | inr last ↦ let e : k ≡ n = omega (arith, l, last) in rw e (omega arith)
]

le-span : (f : ℕ → ℕ) (from n z y : ℕ) → y ≤ z → ((k : ℕ) → k < n → y ≤ f (from + k)) → y ≤ least_span f from n z
le-span f from zero z y start each = start
le-span f from (suc n) z y start each = omega (arith, le-span f from n z y start (λ k l. each k (omega arith)), each n (omega arith))

le-least : (n : ℕ) (f : ℕ → ℕ) (z y : ℕ) → y ≤ z → ((k : ℕ) → k < n → y ≤ f k) → y ≤ least_below n f z
le-least zero f z y start each = start
le-least (suc n) f z y start each = omega (arith, le-least n f z y start (λ k l. each k (omega arith)), each n (omega arith))

-- the place j of a span from i to k, counted from i
span-at : (f : ℕ → ℕ) (i k z j : ℕ) → i ≤ j → j < k → least_span f i (k - i) z ≤ f j
span-at f i k z j low high =
    let back : i + (j - i) ≡ j = omega (arith, low) in
    let le = span-le f i (k - i) z (j - i) (omega (arith, low, high)) in
    rw back at le

-- ---- what one direction allows

or_false : (p : Bool) → (p || false) ≡ p
or_false true = refl
or_false false = refl

-- the blocks with no message on the way
abbrev still : BlocksView → core.State
still v = state_of v [] 0

one_or : (t : Bool) (n : ℕ) → 1 ≤ n → cond t 1 n ≤ n
one_or true n l = l
one_or false n l = omega arith

sense_le : (k : ℕ) (t : Bool) (f : Direction → ℕ) (y : ℕ) → y ≤ min (f (forward k)) (f (backward k)) → y ≤ f (record { arc = k; back = t })
sense_le k true f y le = omega (arith, le)
sense_le k false f y le = omega (arith, le)

module _ (w : Whole) (v : BlocksView) (b : ℕ) (B : CellsView) (u p : ℕ) (at : IsAt w v b B) (spot : IsSpot w u b p) where
  row_at : (leaves : Bool) (j : ℕ) (x : Direction) → StandsAt w leaves u j x → IsRow w x leaves b j
  row_at leaves j x stands = record {
    direction = stands.direction;
    outer = stands.outer;
    node_block = ap (node_block w) stands.near ∙ spot.node_block;
    slot = stands.slot;
    block = spot.block;
  }

  near_view : (x : Direction) → near w.net x ≡ near v.net x
  near_view x = ap (λ (q : BlocksView). near q.net x) at.view

  border_view : (x : Direction) → is_outer w x ≡ core.is_border v.net v.blocks x
  border_view x = ap (λ (q : BlocksView). core.is_border q.net q.blocks x) at.view

  outer_allows : (j : ℕ) (x : Direction) → StandsAt w true u j x → border_allows B j ≡ allowed_label (still v) u x
  outer_allows j x stands =
      let row = row_at true j x stands in
      let lane = border_read w v b B x j at row in
      let here : eqb (near v.net x) u ≡ true = eq-eqb (near v.net x) u (sym (near_view x) ∙ stands.near) in
      let border : core.is_border v.net v.blocks x ≡ true = sym (border_view x) ∙ stands.outer in
      ap (λ (q : Lane). cond (nat_lt 0 q.residual || is_some q.flight) (q.known + 1) B.top) lane
      ∙ (ap (λ t. cond (nat_lt 0 (core.residual_of (still v) x) || is_some (core.flight_of (still v) x)) (core.known_of (still v) x + 1) t) (top_read w v b B at)
      ∙ sym (ap (λ (t : Bool). cond (t && is_open_direction (still v) x) (core.seen_label (still v) x + 1) (top (still v).net)) here
      ∙ ap (λ (t : Bool). cond (nat_lt 0 (core.residual_of (still v) x) || (t && is_some (core.flight_of (still v) x))) (cond t (core.known_of (still v) x) (core.label_of (still v) (far (still v).net x)) + 1) (top (still v).net)) border))

  far_label : (j : ℕ) (x : Direction) → IsRow w x false b j → label_in B (lane_in B j).far ≡ slice_index v.labels (far v.net x)
  far_label j x row = label_read w v b B (far v.net x) (lane_in B j).far at (far_spot w v b B x j at row)

  inner_allows : (j : ℕ) (x : Direction) → StandsAt w false u j x → lane_allows B j ≡ allowed_label (still v) u x
  inner_allows j x stands =
      let row = row_at false j x stands in
      let lane = inner_read w v b B x j at row in
      let here : eqb (near v.net x) u ≡ true = eq-eqb (near v.net x) u (sym (near_view x) ∙ stands.near) in
      let border : core.is_border v.net v.blocks x ≡ false = sym (border_view x) ∙ stands.outer in
      let d = far_label j x row in
      ap (λ (q : Lane). cond (nat_lt 0 q.residual) (label_in B (lane_in B j).far + 1) B.top) lane
      ∙ (ap (λ n. cond (nat_lt 0 (core.residual_of (still v) x)) (n + 1) B.top) d
      ∙ (ap (λ t. cond (nat_lt 0 (core.residual_of (still v) x)) (core.label_of (still v) (far (still v).net x) + 1) t) (top_read w v b B at)
      ∙ sym (ap (λ (t : Bool). cond (t && is_open_direction (still v) x) (core.seen_label (still v) x + 1) (top (still v).net)) here
      ∙ (ap (λ (t : Bool). cond (nat_lt 0 (core.residual_of (still v) x) || (t && is_some (core.flight_of (still v) x))) (cond t (core.known_of (still v) x) (core.label_of (still v) (far (still v).net x)) + 1) (top (still v).net)) border
      ∙ ap (λ (t : Bool). cond t (core.label_of (still v) (far (still v).net x) + 1) (top (still v).net)) (or_false (nat_lt 0 (core.residual_of (still v) x)))))))

  -- the start of both
  abbrev start : ℕ
  start = cond (nat_lt 0 (room_in B p)) 1 B.top

  start_is : start ≡ cond (nat_lt 0 (core.room_of (still v) u)) 1 (top (still v).net)
  start_is = ap (λ r. cond (nat_lt 0 r) 1 B.top) (room_read w v b B u p at spot) ∙ ap (λ t. cond (nat_lt 0 (core.room_of (still v) u)) 1 t) (top_read w v b B at)

  below_start : highest B p ≤ start
  below_start = omega (
    arith,
    span-le-start (border_allows B) (first_border B p) (first_border B (p + 1) - first_border B p) (least_span (lane_allows B) (first_lane B p) (first_lane B (p + 1) - first_lane B p) start),
    span-le-start (lane_allows B) (first_lane B p) (first_lane B (p + 1) - first_lane B p) start,
  )

  start_top : start ≤ top (still v).net
  start_top = subst (λ n. n ≤ top (still v).net) (sym start_is) (one_or (nat_lt 0 (core.room_of (still v) u)) (top (still v).net) (omega arith))

  border_within : (j : ℕ) → first_border B p ≤ j → j < first_border B (p + 1) → highest B p ≤ border_allows B j
  border_within j low high =
      span-at (border_allows B) (first_border B p) (first_border B (p + 1)) (least_span (lane_allows B) (first_lane B p) (first_lane B (p + 1) - first_lane B p) start) j low high

  lane_within : (j : ℕ) → first_lane B p ≤ j → j < first_lane B (p + 1) → highest B p ≤ lane_allows B j
  lane_within j low high = omega (
    arith,
    span-le-start (border_allows B) (first_border B p) (first_border B (p + 1) - first_border B p) (least_span (lane_allows B) (first_lane B p) (first_lane B (p + 1) - first_lane B p) start),
    span-at (lane_allows B) (first_lane B p) (first_lane B (p + 1)) start j low high,
  )

  -- the block of the node
  block_is : block_with w u ≡ B
  block_is = ap (block_at w) spot.node_block ∙ at.is

  starts_are : (f : CellsView → List ℕ) (g : ℕ → ℕ) → slice_index (f (block_with w u)) (g (place w u)) ≡ slice_index (f B) (g p)
  starts_are f g = ap (λ q. slice_index (f (block_with w u)) (g q)) spot.place ∙ ap (λ (q : CellsView). slice_index (f q) (g p)) block_is

  le_own : (x : Direction) → IsDirection w.net x → near w.net x ≡ u → highest B p ≤ allowed_label (still v) u x
  le_own x l here = elim (cases_Bool (is_outer w x)) [
    | inl outer ↦
        let stands : StandsAt w true u (slot w x) x = record { direction = l; near = here; outer = outer; slot = refl } in
        let place_is = at.laid.placed.borders x l outer in
        let low = subst (λ n. slice_index (block_with w n).border_starts (place w n) ≤ slot w x) here place_is.from in
        let high = subst (λ n. slot w x < slice_index (block_with w n).border_starts (place w n + 1)) here place_is.below in
        let le = border_within (slot w x) (omega (arith, low, starts_are (λ (q : CellsView). q.border_starts) (λ q. q))) (omega (arith, high, starts_are (λ (q : CellsView). q.border_starts) (λ q. q + 1))) in
        omega (arith, le, outer_allows (slot w x) x stands)
    | inr inner ↦
        let stands : StandsAt w false u (slot w x) x = record { direction = l; near = here; outer = inner; slot = refl } in
        let place_is = at.laid.placed.inner x l inner in
        let low = subst (λ n. slice_index (block_with w n).starts (place w n) ≤ slot w x) here place_is.from in
        let high = subst (λ n. slot w x < slice_index (block_with w n).starts (place w n + 1)) here place_is.below in
        let le = lane_within (slot w x) (omega (arith, low, starts_are (λ (q : CellsView). q.starts) (λ q. q))) (omega (arith, high, starts_are (λ (q : CellsView). q.starts) (λ q. q + 1))) in
        omega (arith, le, inner_allows (slot w x) x stands)
  ]

  le_each : (x : Direction) → IsDirection w.net x → highest B p ≤ allowed_label (still v) u x
  le_each x l = elim (cases_eq (near v.net x) u) [
    | inl here ↦ le_own x l (near_view x ∙ here)
    | inr off ↦
        let none : allowed_label (still v) u x ≡ top (still v).net = ap (λ (t : Bool). cond (t && is_open_direction (still v) x) (core.seen_label (still v) x + 1) (top (still v).net)) (ne_eqb (near v.net x) u off) in
        omega (arith, none, below_start, start_top)
  ]

  arcs_are : length w.net.arcs ≡ length v.net.arcs
  arcs_are = ap (λ (q : BlocksView). length q.net.arcs) at.view

  all_within : (x : Direction) → IsDirection w.net x → highest_label (still v) u ≤ allowed_label (still v) u x
  all_within x l =
      let both = λ (k : ℕ). min (allowed_label (still v) u (forward k)) (allowed_label (still v) u (backward k)) in
      let le = least-le (length (still v).net.arcs) both (cond (nat_lt 0 (core.room_of (still v) u)) 1 (top (still v).net)) x.arc (omega (arith, l, arcs_are)) in
      sense_le x.arc x.back (allowed_label (still v) u) (highest_label (still v) u) le

  pub highest_is : highest B p ≡ highest_label (still v) u
  highest_is =
      let both = λ (k : ℕ). min (allowed_label (still v) u (forward k)) (allowed_label (still v) u (backward k)) in
      let up : highest B p ≤ highest_label (still v) u = le-least (length (still v).net.arcs) both (cond (nat_lt 0 (core.room_of (still v) u)) 1 (top (still v).net)) (highest B p)
      (omega (arith, below_start, start_is))
      (λ k l.
      let lk : k < length w.net.arcs = omega (arith, l, arcs_are) in
      omega (arith, le_each (forward k) lk, le_each (backward k) lk)) in
      let all = least-le-start (length (still v).net.arcs) both (cond (nat_lt 0 (core.room_of (still v) u)) 1 (top (still v).net)) in
      let down : highest_label (still v) u ≤ highest B p =
      le-span (border_allows B) (first_border B p) (first_border B (p + 1) - first_border B p) (least_span (lane_allows B) (first_lane B p) (first_lane B (p + 1) - first_lane B p) start) (highest_label (still v) u)
      (le-span (lane_allows B) (first_lane B p) (first_lane B (p + 1) - first_lane B p) start (highest_label (still v) u) (omega (arith, all, start_is))
      (λ k l.
      let j = first_lane B p + k in
      let found = at.laid.placed.lanes u j spot.node (omega (arith, starts_are (λ (q : CellsView). q.starts) (λ q. q))) (omega (arith, l, starts_are (λ (q : CellsView). q.starts) (λ q. q + 1))) in
      omega (arith, inner_allows j found.0 found.1, all_within found.0 found.1.direction)))
      (λ k l.
      let j = first_border B p + k in
      let found = at.laid.placed.outers u j spot.node (omega (arith, starts_are (λ (q : CellsView). q.border_starts) (λ q. q))) (omega (arith, l, starts_are (λ (q : CellsView). q.border_starts) (λ q. q + 1))) in
      omega (arith, outer_allows j found.0 found.1, all_within found.0 found.1.direction)) in
      omega (arith, up, down)
