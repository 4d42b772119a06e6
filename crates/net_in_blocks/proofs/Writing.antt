-- A write to one block is a write to one place of what all blocks show.
use Rattle.std.proofs.Common.{◌≡◌, ℕ, ◌+◌, ◌-◌, ◌*◌, ◌/◌, ◌<◌, Bool, true, false, cond, List, length, set, get_or, slice_index, refl, sym, ◌∙◌, ap, inl, inr, arith, get_or-set_same, get_or-set_other}
use Rattle.std.proofs.lemmas.List.{length-set}
use Rattle.std.proofs.lemmas.Bool.{cases_eq, cases_Bool, false≢true}
use Rattle.flow_network.specs.Cut.{nodes}
use Rattle.block_events.specs.declared.lane.Lane.{Lane}
use Rattle.block_events.specs.declared.direction.Direction.{Direction}
use Rattle.block_events.specs.Directions.{IsDirection, forward, backward, near, far}
use Rattle.block_events.specs.States as core
use Rattle.block_net.specs.declared.lanes.InnerLane.{InnerLane}
use Rattle.block_net.specs.declared.lanes.Border.{Border}
use Rattle.block_net.specs.Views.{CellsView, no_row, no_border, count, lane_in, border_in}
use Rattle.block_net.specs.Whole.{Whole, table, no_block, block_at, block_with, node_block, place, near_node_block, slot, is_outer, lane_of, border_of, shown_lane, shown_border, shown_of, IsInnerAt, IsBorderAt, StandsAt, IsPlaced, IsFilled, put_block}
use Rattle.block_net.proofs.Tables.{length_table, table_at, table_is}
use Rattle.net_in_blocks.specs.Views.{blocks_in, IsLaid, IsSpot, IsRow}

-- ---- tables

table_same : {A : Type 0} (n : ℕ) (f g : ℕ → A) → ((i : ℕ) → i < n → g i ≡ f i) → table n g ≡ table n f
table_same n f g each =
    table_is n g (table n f) (length_table n f) (λ i d l. table_at n f i d l ∙ sym (each i l))

table_set : {A : Type 0} (n : ℕ) (f g : ℕ → A) (v : ℕ) (y : A) → v < n → g v ≡ y → ((i : ℕ) → i < n → (i ≡ v → ⊥) → g i ≡ f i)
    → table n g ≡ set (table n f) v y
table_set n f g v y lv here others =
    table_is n g (set (table n f) v y) (length-set (table n f) v y ∙ length_table n f) (λ i d l.
    elim (cases_eq i v) [
      | inl e ↦ rw e (get_or-set_same (table n f) v y d (omega (arith, lv, length_table n f)) ∙ sym here)
      | inr off ↦ get_or-set_other (table n f) v i y d off ∙ (table_at n f i d l ∙ sym (others i l off))
    ])

-- ---- one block

pub node_block_put : (w : Whole) (b : ℕ) (block : CellsView) (u : ℕ) → node_block (put_block w b block) u ≡ node_block w u
node_block_put w b block u = ap (λ q. (u * q) / nodes w.net) (length-set w.blocks b block)

pub outer_put : (w : Whole) (b : ℕ) (block : CellsView) (x : Direction) → is_outer (put_block w b block) x ≡ is_outer w x
outer_put w b block x = ap (λ q. core.is_border w.net q x) (length-set w.blocks b block)

pub block_same : (w : Whole) (b : ℕ) (block : CellsView) → b < length w.blocks → block_at (put_block w b block) b ≡ block
block_same w b block l = get_or-set_same w.blocks b block no_block l

pub block_other : (w : Whole) (b : ℕ) (block : CellsView) (c : ℕ) → (c ≡ b → ⊥) → block_at (put_block w b block) c ≡ block_at w c
block_other w b block c off = get_or-set_other w.blocks b c block no_block off

-- what the block in a block's stead keeps, each block keeps
block_keeps : {A : Type 0} (w : Whole) (b : ℕ) (block : CellsView) (c : ℕ) (f : CellsView → A) → b < length w.blocks → f block ≡ f (block_at w b)
    → f (block_at (put_block w b block) c) ≡ f (block_at w c)
block_keeps w b block c f l same = elim (cases_eq c b) [
  | inl e ↦ rw e (ap f (block_same w b block l) ∙ same)
  | inr off ↦ ap f (block_other w b block c off)
]

with_keeps : {A : Type 0} (w : Whole) (b : ℕ) (block : CellsView) (v : ℕ) (f : CellsView → A) → b < length w.blocks → f block ≡ f (block_at w b)
    → f (block_with (put_block w b block) v) ≡ f (block_with w v)
with_keeps w b block v f l same =
    ap (λ h. f (block_at (put_block w b block) h)) (node_block_put w b block v) ∙ block_keeps w b block (node_block w v) f l same

pub place_put : (w : Whole) (b : ℕ) (block : CellsView) (v : ℕ) → place (put_block w b block) v ≡ place w v
place_put w b block v = ap (λ h. v - slice_index w.firsts h) (node_block_put w b block v)

-- what is read at a node's place, or at the next, in a list that the block keeps
read_keeps : (w : Whole) (b : ℕ) (block : CellsView) (v : ℕ) (g : ℕ → ℕ) (f : CellsView → List ℕ) → b < length w.blocks → f block ≡ f (block_at w b)
    → slice_index (f (block_with (put_block w b block) v)) (g (place (put_block w b block) v)) ≡ slice_index (f (block_with w v)) (g (place w v))
read_keeps w b block v g f l same =
    ap (λ q. slice_index (f (block_with (put_block w b block) v)) (g q)) (place_put w b block v)
    ∙ ap (λ xs. slice_index xs (g (place w v))) (with_keeps w b block v f l same)

-- ---- numbers of nodes

-- of each node the number at its place in a list of its block
abbrev pub numbers : (CellsView → List ℕ) → Whole → List ℕ
numbers f w = table (nodes w.net) (λ v. slice_index (f (block_with w v)) (place w v))

pub numbers_same : (f : CellsView → List ℕ) (w : Whole) (b : ℕ) (block : CellsView) → b < length w.blocks → f block ≡ f (block_at w b)
    → numbers f (put_block w b block) ≡ numbers f w
numbers_same f w b block l same =
    table_same (nodes w.net) (λ v. slice_index (f (block_with w v)) (place w v)) (λ v. slice_index (f (block_with (put_block w b block) v)) (place (put_block w b block) v)) (λ v lv.
    ap (slice_index (f (block_with (put_block w b block) v))) (place_put w b block v)
    ∙ ap (λ xs. slice_index xs (place w v)) (with_keeps w b block v f l same))

pub spot_put : (w : Whole) (v b p c : ℕ) (block : CellsView) → IsSpot w v b p → IsSpot (put_block w c block) v b p
spot_put w v b p c block at = record {
  node = at.node;
  node_block = node_block_put w c block v ∙ at.node_block;
  place = place_put w c block v ∙ at.place;
  block = omega (arith, at.block, length-set w.blocks c block);
}

-- two nodes of one block and one place are one
pub same_spot : (w : Whole) (u v b p : ℕ) → IsPlaced w → IsSpot w u b p → IsSpot w v b p → u ≡ v
same_spot w u v b p placed at_u at_v =
    let first_u = placed.firsts u at_u.node in
    let first_v = placed.firsts v at_v.node in
    let eu : place w u ≡ u - slice_index w.firsts b = ap (λ h. u - slice_index w.firsts h) at_u.node_block in
    let ev : place w v ≡ v - slice_index w.firsts b = ap (λ h. v - slice_index w.firsts h) at_v.node_block in
    let fu = ap (slice_index w.firsts) at_u.node_block in
    let fv = ap (slice_index w.firsts) at_v.node_block in
    omega (arith, first_u, first_v, eu, ev, fu, fv, at_u.place, at_v.place)

pub numbers_set : (f : CellsView → List ℕ) (w : Whole) (v b p y : ℕ) (block : CellsView) → IsPlaced w → IsSpot w v b p → p < length (f (block_at w b))
    → f block ≡ set (f (block_at w b)) p y → numbers f (put_block w b block) ≡ set (numbers f w) v y
numbers_set f w v b p y block placed at lp made =
    let w' = put_block w b block in
    let old = f (block_at w b) in
    let here : f (block_at w' b) ≡ set old p y = ap f (block_same w b block at.block) ∙ made in
    table_set (nodes w.net) (λ u. slice_index (f (block_with w u)) (place w u)) (λ u. slice_index (f (block_with w' u)) (place w' u)) v y at.node
    (ap (slice_index (f (block_with w' v))) (place_put w b block v ∙ at.place)
    ∙ (ap (λ h. slice_index (f (block_at w' h)) p) (node_block_put w b block v ∙ at.node_block)
    ∙ (ap (λ xs. slice_index xs p) here ∙ get_or-set_same old p y 0 lp)))
    (λ u lu off.
    ap (slice_index (f (block_with w' u))) (place_put w b block u)
    ∙ (ap (λ h. slice_index (f (block_at w' h)) (place w u)) (node_block_put w b block u)
    ∙ elim (cases_eq (node_block w u) b) [
      | inl e ↦
          let apart : place w u ≡ p → ⊥ = λ h. off (same_spot w u v b p placed (record { node = lu; node_block = e; place = h; block = at.block }) at) in
          ap (λ h. slice_index (f (block_at w' h)) (place w u)) e
          ∙ (ap (λ xs. slice_index xs (place w u)) here
          ∙ (get_or-set_other old p (place w u) y 0 apart
          ∙ ap (λ h. slice_index (f (block_at w h)) (place w u)) (sym e)))
      | inr away ↦ ap (λ q. slice_index (f q) (place w u)) (block_other w b block (node_block w u) away)
    ]))

-- ---- directions

pub row_put : (w : Whole) (x : Direction) (leaves : Bool) (b j c : ℕ) (block : CellsView) → IsRow w x leaves b j → IsRow (put_block w c block) x leaves b j
row_put w x leaves b j c block at = record {
  direction = at.direction;
  outer = outer_put w c block x ∙ at.outer;
  node_block = node_block_put w c block (near w.net x) ∙ at.node_block;
  slot = at.slot;
  block = omega (arith, at.block, length-set w.blocks c block);
}

-- what is shown of a direction, from what its block holds
shown_by : (w w' : Whole) (x : Direction) → is_outer w' x ≡ is_outer w x → lane_of w' x ≡ lane_of w x → border_of w' x ≡ border_of w x → shown_of w' x ≡ shown_of w x
shown_by w w' x e1 e2 e3 =
    ap (λ o. cond o (shown_border (border_of w' x)) (shown_lane (lane_of w' x))) e1
    ∙ (ap (λ q. cond (is_outer w x) (shown_border q) (shown_lane (lane_of w' x))) e3
    ∙ ap (λ q. cond (is_outer w x) (shown_border (border_of w x)) (shown_lane q)) e2)

shown_keeps : (w : Whole) (b : ℕ) (block : CellsView) (x : Direction) → b < length w.blocks → block.lanes ≡ (block_at w b).lanes → block.borders ≡ (block_at w b).borders
    → shown_of (put_block w b block) x ≡ shown_of w x
shown_keeps w b block x l lanes borders =
    shown_by w (put_block w b block) x (outer_put w b block x)
    (with_keeps w b block (near w.net x) (λ (q : CellsView). lane_in q (slot w x)) l (ap (λ ls. get_or ls (slot w x) no_row) lanes))
    (with_keeps w b block (near w.net x) (λ (q : CellsView). border_in q (slot w x)) l (ap (λ ls. get_or ls (slot w x) no_border) borders))

pub inner_shown : (w : Whole) (x : Direction) → is_outer w x ≡ false → shown_of w x ≡ shown_lane (lane_of w x)
inner_shown w x e = ap (λ o. cond o (shown_border (border_of w x)) (shown_lane (lane_of w x))) e

pub outer_shown : (w : Whole) (x : Direction) → is_outer w x ≡ true → shown_of w x ≡ shown_border (border_of w x)
outer_shown w x e = ap (λ o. cond o (shown_border (border_of w x)) (shown_lane (lane_of w x))) e

-- the lists of all directions
abbrev lanes_of : ℕ → (Direction → Lane) → core.Lanes
lanes_of m f = record { forth = table m (λ k. f (forward k)); back = table m (λ k. f (backward k)) }

lanes_same : (m : ℕ) (f g : Direction → Lane) → ((y : Direction) → g y ≡ f y) → lanes_of m g ≡ lanes_of m f
lanes_same m f g each =
    let forth = table_same m (λ k. f (forward k)) (λ k. g (forward k)) (λ k l. each (forward k)) in
    let back = table_same m (λ k. f (backward k)) (λ k. g (backward k)) (λ k l. each (backward k)) in
    rw (forth, back) refl

pub lanes_keep : (w : Whole) (b : ℕ) (block : CellsView) → b < length w.blocks → block.lanes ≡ (block_at w b).lanes → block.borders ≡ (block_at w b).borders
    → (blocks_in (put_block w b block)).lanes ≡ (blocks_in w).lanes
lanes_keep w b block l lanes borders = lanes_same (length w.net.arcs) (shown_of w) (shown_of (put_block w b block)) (λ y. shown_keeps w b block y l lanes borders)

lanes_put : (m : ℕ) (f g : Direction → Lane) (k : ℕ) (b : Bool) (lane : Lane) → k < m → g (record { arc = k; back = b }) ≡ lane
    → ((y : Direction) → y.arc < m → (y ≡ record { arc = k; back = b } → ⊥) → g y ≡ f y)
    → lanes_of m g ≡ core.put_lane (lanes_of m f) (record { arc = k; back = b }) lane
lanes_put m f g k true lane l here others =
    let forth = table_same m (λ i. f (forward i)) (λ i. g (forward i)) (λ i li. others (forward i) li (λ e. false≢true (ap (λ (z : Direction). z.back) e))) in
    let back = table_set m (λ i. f (backward i)) (λ i. g (backward i)) k lane l here (λ i li off. others (backward i) li (λ e. off (ap (λ (z : Direction). z.arc) e))) in
    rw (forth, back) refl
lanes_put m f g k false lane l here others =
    let back = table_same m (λ i. f (backward i)) (λ i. g (backward i)) (λ i li. others (backward i) li (λ e. false≢true (sym (ap (λ (z : Direction). z.back) e)))) in
    let forth = table_set m (λ i. f (forward i)) (λ i. g (forward i)) k lane l here (λ i li off. others (forward i) li (λ e. off (ap (λ (z : Direction). z.arc) e))) in
    rw (forth, back) refl

lane_from : (w : Whole) (k : ℕ) (b : Bool) → k < length w.net.arcs → core.lane_at (blocks_in w).lanes (record { arc = k; back = b }) ≡ shown_of w (record { arc = k; back = b })
lane_from w k true l = table_at (length w.net.arcs) (λ i. shown_of w (backward i)) k core.no_lane l
lane_from w k false l = table_at (length w.net.arcs) (λ i. shown_of w (forward i)) k core.no_lane l

-- the lane of each direction, read from the lists
pub lane_read : (w : Whole) (x : Direction) → IsDirection w.net x → core.lane_at (blocks_in w).lanes x ≡ shown_of w x
lane_read w x l = lane_from w x.arc x.back l

-- ---- a direction written

-- what is read of a list after one write to it
pub set_other : {A C : Type 0} (g : A → C) (xs : List A) (i : ℕ) (y : A) (j : ℕ) (d : A) → i < length xs → g y ≡ g (get_or xs i d) → g (get_or (set xs i y) j d) ≡ g (get_or xs j d)
set_other g xs i y j d l same = elim (cases_eq j i) [
  | inl e ↦ rw e (ap g (get_or-set_same xs i y d l) ∙ same)
  | inr off ↦ ap g (get_or-set_other xs i j y d off)
]

lane_here : (w : Whole) (x : Direction) (b j : ℕ) (block : CellsView) (lane : InnerLane) → IsRow w x false b j → j < length (block_at w b).lanes → block.lanes ≡ set (block_at w b).lanes j lane
    → lane_of (put_block w b block) x ≡ lane
lane_here w x b j block lane at lj made =
    let w' = put_block w b block in
    ap (λ h. lane_in (block_at w' h) (slot w x)) (node_block_put w b block (near w.net x) ∙ at.node_block)
    ∙ (ap (λ (q : CellsView). lane_in q (slot w x)) (block_same w b block at.block)
    ∙ (ap (lane_in block) at.slot ∙ (ap (λ ls. get_or ls j no_row) made ∙ get_or-set_same (block_at w b).lanes j lane no_row lj)))

border_here : (w : Whole) (x : Direction) (b j : ℕ) (block : CellsView) (border : Border) → IsRow w x true b j → j < length (block_at w b).borders → block.borders ≡ set (block_at w b).borders j border
    → border_of (put_block w b block) x ≡ border
border_here w x b j block border at lj made =
    let w' = put_block w b block in
    ap (λ h. border_in (block_at w' h) (slot w x)) (node_block_put w b block (near w.net x) ∙ at.node_block)
    ∙ (ap (λ (q : CellsView). border_in q (slot w x)) (block_same w b block at.block)
    ∙ (ap (border_in block) at.slot ∙ (ap (λ ls. get_or ls j no_border) made ∙ get_or-set_same (block_at w b).borders j border no_border lj)))

-- two directions of one kind are apart where their blocks or slots are
slots_apart : (w : Whole) (x y : Direction) (leaves : Bool) (b j : ℕ) → IsPlaced w → IsRow w x leaves b j → IsDirection w.net y → is_outer w y ≡ leaves → near_node_block w y ≡ b → (y ≡ x → ⊥)
    → slot w y ≡ j → ⊥
slots_apart w x y leaves b j placed at ly outer node_block off same =
    off (placed.apart y x ly at.direction (outer ∙ sym at.outer) (node_block ∙ sym at.node_block) (same ∙ sym at.slot))

lane_there : (w : Whole) (x y : Direction) (b j : ℕ) (block : CellsView) (lane : InnerLane) → IsPlaced w → IsRow w x false b j → block.lanes ≡ set (block_at w b).lanes j lane
    → IsDirection w.net y → is_outer w y ≡ false → (y ≡ x → ⊥) → lane_of (put_block w b block) y ≡ lane_of w y
lane_there w x y b j block lane placed at made ly outer off =
    let w' = put_block w b block in
    ap (λ h. lane_in (block_at w' h) (slot w y)) (node_block_put w b block (near w.net y))
    ∙ elim (cases_eq (near_node_block w y) b) [
      | inl e ↦
          ap (λ h. lane_in (block_at w' h) (slot w y)) e
          ∙ (ap (λ (q : CellsView). lane_in q (slot w y)) (block_same w b block at.block)
          ∙ (ap (λ ls. get_or ls (slot w y) no_row) made
          ∙ (get_or-set_other (block_at w b).lanes j (slot w y) lane no_row (slots_apart w x y false b j placed at ly outer e off)
          ∙ ap (λ h. lane_in (block_at w h) (slot w y)) (sym e))))
      | inr away ↦ ap (λ (q : CellsView). lane_in q (slot w y)) (block_other w b block (near_node_block w y) away)
    ]

border_there : (w : Whole) (x y : Direction) (b j : ℕ) (block : CellsView) (border : Border) → IsPlaced w → IsRow w x true b j → block.borders ≡ set (block_at w b).borders j border
    → IsDirection w.net y → is_outer w y ≡ true → (y ≡ x → ⊥) → border_of (put_block w b block) y ≡ border_of w y
border_there w x y b j block border placed at made ly outer off =
    let w' = put_block w b block in
    ap (λ h. border_in (block_at w' h) (slot w y)) (node_block_put w b block (near w.net y))
    ∙ elim (cases_eq (near_node_block w y) b) [
      | inl e ↦
          ap (λ h. border_in (block_at w' h) (slot w y)) e
          ∙ (ap (λ (q : CellsView). border_in q (slot w y)) (block_same w b block at.block)
          ∙ (ap (λ ls. get_or ls (slot w y) no_border) made
          ∙ (get_or-set_other (block_at w b).borders j (slot w y) border no_border (slots_apart w x y true b j placed at ly outer e off)
          ∙ ap (λ h. border_in (block_at w h) (slot w y)) (sym e))))
      | inr away ↦ ap (λ (q : CellsView). border_in q (slot w y)) (block_other w b block (near_node_block w y) away)
    ]

pub lane_shown : (w : Whole) (x : Direction) (b j : ℕ) (block : CellsView) (lane : InnerLane) → IsPlaced w → IsRow w x false b j → j < length (block_at w b).lanes
    → block.lanes ≡ set (block_at w b).lanes j lane → block.borders ≡ (block_at w b).borders
    → (blocks_in (put_block w b block)).lanes ≡ core.put_lane (blocks_in w).lanes x (shown_lane lane)
lane_shown w x b j block lane placed at lj made borders =
    let w' = put_block w b block in
    lanes_put (length w.net.arcs) (shown_of w) (shown_of w') x.arc x.back (shown_lane lane) at.direction
    (inner_shown w' x (outer_put w b block x ∙ at.outer) ∙ ap shown_lane (lane_here w x b j block lane at lj made))
    (λ y ly off. elim (cases_Bool (is_outer w y)) [
      | inl outer ↦
          outer_shown w' y (outer_put w b block y ∙ outer)
          ∙ (ap shown_border (with_keeps w b block (near w.net y) (λ (q : CellsView). border_in q (slot w y)) at.block (ap (λ ls. get_or ls (slot w y) no_border) borders))
          ∙ sym (outer_shown w y outer))
      | inr inner ↦
          inner_shown w' y (outer_put w b block y ∙ inner)
          ∙ (ap shown_lane (lane_there w x y b j block lane placed at made ly inner off) ∙ sym (inner_shown w y inner))
    ])

pub border_shown : (w : Whole) (x : Direction) (b j : ℕ) (block : CellsView) (border : Border) → IsPlaced w → IsRow w x true b j → j < length (block_at w b).borders
    → block.borders ≡ set (block_at w b).borders j border → block.lanes ≡ (block_at w b).lanes
    → (blocks_in (put_block w b block)).lanes ≡ core.put_lane (blocks_in w).lanes x (shown_border border)
border_shown w x b j block border placed at lj made lanes =
    let w' = put_block w b block in
    lanes_put (length w.net.arcs) (shown_of w) (shown_of w') x.arc x.back (shown_border border) at.direction
    (outer_shown w' x (outer_put w b block x ∙ at.outer) ∙ ap shown_border (border_here w x b j block border at lj made))
    (λ y ly off. elim (cases_Bool (is_outer w y)) [
      | inl outer ↦
          outer_shown w' y (outer_put w b block y ∙ outer)
          ∙ (ap shown_border (border_there w x y b j block border placed at made ly outer off) ∙ sym (outer_shown w y outer))
      | inr inner ↦
          inner_shown w' y (outer_put w b block y ∙ inner)
          ∙ (ap shown_lane (with_keeps w b block (near w.net y) (λ (q : CellsView). lane_in q (slot w y)) at.block (ap (λ ls. get_or ls (slot w y) no_row) lanes))
          ∙ sym (inner_shown w y inner))
    ])

-- ---- places stay

-- another block with the same nodes and directions at the same places
pub record IsLike (old new : CellsView) : Type 0 where
  pub top : new.top ≡ old.top
  pub count : length new.excess ≡ length old.excess
  pub labels_len : length new.labels ≡ length old.labels
  pub starts : new.starts ≡ old.starts
  pub border_starts : new.border_starts ≡ old.border_starts
  pub lanes_len : length new.lanes ≡ length old.lanes
  pub borders_len : length new.borders ≡ length old.borders
  pub far : (j : ℕ) → (lane_in new j).far ≡ (lane_in old j).far
  pub lane_opposite : (j : ℕ) → (lane_in new j).opposite ≡ (lane_in old j).opposite
  pub direction : (j : ℕ) → (border_in new j).direction ≡ (border_in old j).direction
  pub near : (j : ℕ) → (border_in new j).near ≡ (border_in old j).near
  pub to : (j : ℕ) → (border_in new j).to ≡ (border_in old j).to
  pub opposite : (j : ℕ) → (border_in new j).opposite ≡ (border_in old j).opposite
  pub capacity : (j : ℕ) → (border_in new j).capacity ≡ (border_in old j).capacity

module _ (w : Whole) (b : ℕ) (block : CellsView) (placed : IsPlaced w) (l : b < length w.blocks) (like : IsLike (block_at w b) block) where
  inner_put : (x : Direction) → IsInnerAt w x → IsInnerAt (put_block w b block) x
  inner_put x at =
      let v = near w.net x in
      let first = read_keeps w b block v (λ q. q) (λ (q : CellsView). q.starts) l like.starts in
      let next = read_keeps w b block v (λ q. q + 1) (λ (q : CellsView). q.starts) l like.starts in
      record {
        from = omega (arith, first, at.from);
        below = omega (arith, next, at.below);
        within = omega (arith, with_keeps w b block v (λ (q : CellsView). length q.lanes) l like.lanes_len, at.within);
        far = with_keeps w b block v (λ (q : CellsView). (lane_in q (slot w x)).far) l (like.far (slot w x)) ∙ (at.far ∙ sym (place_put w b block (far w.net x)));
        opposite = with_keeps w b block v (λ (q : CellsView). (lane_in q (slot w x)).opposite) l (like.lane_opposite (slot w x)) ∙ at.opposite;
      }

  outer_at : (x : Direction) → IsBorderAt w x → IsBorderAt (put_block w b block) x
  outer_at x at =
      let v = near w.net x in
      let j = slot w x in
      let first = read_keeps w b block v (λ q. q) (λ (q : CellsView). q.border_starts) l like.border_starts in
      let next = read_keeps w b block v (λ q. q + 1) (λ (q : CellsView). q.border_starts) l like.border_starts in
      record {
        from = omega (arith, first, at.from);
        below = omega (arith, next, at.below);
        within = omega (arith, with_keeps w b block v (λ (q : CellsView). length q.borders) l like.borders_len, at.within);
        direction = with_keeps w b block v (λ (q : CellsView). (border_in q j).direction) l (like.direction j) ∙ at.direction;
        near = with_keeps w b block v (λ (q : CellsView). (border_in q j).near) l (like.near j) ∙ (at.near ∙ sym (place_put w b block v));
        to = with_keeps w b block v (λ (q : CellsView). (border_in q j).to) l (like.to j) ∙ (at.to ∙ sym (node_block_put w b block (far w.net x)));
        opposite = with_keeps w b block v (λ (q : CellsView). (border_in q j).opposite) l (like.opposite j) ∙ at.opposite;
        capacity = with_keeps w b block v (λ (q : CellsView). (border_in q j).capacity) l (like.capacity j) ∙ at.capacity;
      }

  stands_put : (leaves : Bool) (v j : ℕ) (x : Direction) → StandsAt w leaves v j x → StandsAt (put_block w b block) leaves v j x
  stands_put leaves v j x at = record { direction = at.direction; near = at.near; outer = outer_put w b block x ∙ at.outer; slot = at.slot }

  pub placed_put : IsPlaced (put_block w b block)
  placed_put = record {
    firsts_len = placed.firsts_len ∙ sym (length-set w.blocks b block);
    slots_len = placed.slots_len;
    node_blocks = λ v lv. omega (arith, node_block_put w b block v, length-set w.blocks b block, placed.node_blocks v lv);
    firsts = λ v lv. omega (arith, ap (slice_index w.firsts) (node_block_put w b block v), placed.firsts v lv);
    places = λ v lv. omega (arith, place_put w b block v, with_keeps w b block v count l like.count, placed.places v lv);
    tops = λ c lc. block_keeps w b block c (λ (q : CellsView). q.top) l like.top ∙ placed.tops c (omega (arith, lc, length-set w.blocks b block));
    inner = λ x d e. inner_put x (placed.inner x d (sym (outer_put w b block x) ∙ e));
    borders = λ x d e. outer_at x (placed.borders x d (sym (outer_put w b block x) ∙ e));
    apart = λ x y dx dy same node_block slot. placed.apart x y dx dy
        (sym (outer_put w b block x) ∙ (same ∙ outer_put w b block y))
        (sym (node_block_put w b block (near w.net x)) ∙ (node_block ∙ node_block_put w b block (near w.net y))) slot;
    lanes = λ v j lv from below.
        let found = placed.lanes v j lv (omega (arith, from, read_keeps w b block v (λ q. q) (λ (q : CellsView). q.starts) l like.starts)) (omega (arith, below, read_keeps w b block v (λ q. q + 1) (λ (q : CellsView). q.starts) l like.starts)) in
        (found.0, stands_put false v j found.0 found.1);
    outers = λ v j lv from below.
        let found = placed.outers v j lv (omega (arith, from, read_keeps w b block v (λ q. q) (λ (q : CellsView). q.border_starts) l like.border_starts)) (omega (arith, below, read_keeps w b block v (λ q. q + 1) (λ (q : CellsView). q.border_starts) l like.border_starts)) in
        (found.0, stands_put true v j found.0 found.1);
  }

  -- and nothing else comes in
  pub filled_put : IsFilled w → IsFilled (put_block w b block)
  filled_put filled =
      let w' = put_block w b block in
      let len = length-set w.blocks b block in
      let nodes_len = λ (c : ℕ). block_keeps w b block c count l like.count in
      let borders_len = λ (c : ℕ). block_keeps w b block c (λ (q : CellsView). length q.borders) l like.borders_len in
      record {
        labels = λ c lc. block_keeps w b block c (λ (q : CellsView). length q.labels) l like.labels_len ∙ (filled.labels c (omega (arith, lc, len)) ∙ sym (nodes_len c));
        nodes = λ c p lc lp.
            let found = filled.nodes c p (omega (arith, lc, len)) (omega (arith, lp, nodes_len c)) in (
              found.0,
              record { node = found.1.node; node_block = node_block_put w b block found.0 ∙ found.1.node_block; place = place_put w b block found.0 ∙ found.1.place },
            );
        borders = λ c j lc lj.
            let found = filled.borders c j (omega (arith, lc, len)) (omega (arith, lj, borders_len c)) in
            (found.0, node_block_put w b block (near w.net found.0) ∙ found.1, stands_put true (near w.net found.0) j found.0 found.2);
      }

pub laid_put : (w : Whole) (b : ℕ) (block : CellsView) → IsLaid w → b < length w.blocks → IsLike (block_at w b) block → IsLaid (put_block w b block)
laid_put w b block laid l like =
    let len = length-set w.blocks b block in
    record {
      net = laid.net;
      arcs = laid.arcs;
      some = omega (arith, len, laid.some);
      few = omega (arith, len, laid.few);
      placed = placed_put w b block laid.placed l like;
      filled = filled_put w b block laid.placed l like laid.filled;
    }
