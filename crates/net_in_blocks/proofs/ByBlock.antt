-- Labels that are written block by block.
use Rattle.std.proofs.Common.{◌≡◌, ℕ, ◌+◌, ◌-◌, ◌<◌, ◌≤◌, Bool, true, false, cond, List, length, map, get_or, slice_index, slice_range, refl, sym, ◌∙◌, ap, subst, inl, inr, arith}
use Rattle.std.proofs.lemmas.List.{length-set, get_or_read, ext_get_or, same_lists, get_or_default}
use Rattle.std.proofs.lemmas.List.FromFn.{get_or-map-range_with_len, length-map-range_with_len}
use Rattle.std.specs.List.{range_with_len}
use Rattle.std.proofs.lemmas.Bool.{cases_eq, cases_Bool, false≢true}
use Rattle.flow_network.specs.Cut.{Network, nodes, IsNet}
use Rattle.block_events.specs.declared.lane.Lane.{Lane}
use Rattle.block_events.specs.declared.direction.Direction.{Direction}
use Rattle.block_events.specs.Directions.{IsDirection, near, far, forward, backward}
use Rattle.block_events.specs.States as core
use Rattle.block_events.proofs.Ends.{near_in, far_in, block_in}
use Rattle.block_events.proofs.Lanes.{cases_direction, lane_same, lane_other, IsLong as IsLongOf}
use Rattle.block_net.specs.declared.lanes.Border.{Border}
use Rattle.block_net.specs.Views as block
use Rattle.block_net.specs.Views.{CellsView, border_in, count}
use Rattle.block_net.specs.Whole.{Whole, block_at, block_with, node_block, place, near_node_block, slot, is_outer, border_of, put_block, no_block}
use Rattle.block_net.proofs.Tables.{table_at}
use Rattle.block_split.proofs.Spans.{length_range, range_at}
use Rattle.block_events.specs.Effects.{BlocksView}
use Rattle.net_in_blocks.specs.Views.{blocks_in, IsLaid, IsSpot, IsRow}
use Rattle.block_events.specs.Effects.{blocks_with_known_labels, told_lane}
use Rattle.net_in_blocks.specs.Raising.{told_one}
use Rattle.net_in_blocks.specs.ByBlock.{direction_at, told_at, IsTelling, HasLabelsInBlock, IsToldFrom, IsRelabelled}
use Rattle.net_in_blocks.proofs.Writing.{IsLike, laid_put, node_block_put, place_put, block_same, block_other, numbers_same, lanes_keep}
use Rattle.net_in_blocks.proofs.Steps.{IsAt, informed_at}
use Rattle.net_in_blocks.proofs.Opened.{laid_long}

-- ---- the direction at a place of a block

-- a direction to another block that stands at a place of a block, and where its far end is
pub record IsFarOf (w : Whole) (b j : ℕ) (r : Border) : Type 0 where
  pub is : direction_at w b j ≡ r.direction
  pub row : IsRow w r.direction true b j
  pub firsts : r.to < length w.firsts
  pub first : slice_index w.firsts r.to ≤ far w.net r.direction
  pub spot : IsSpot w (far w.net r.direction) r.to (far w.net r.direction - slice_index w.firsts r.to)

pub far_at : (w : Whole) (b j : ℕ) → IsLaid w → b < length w.blocks → j < length (block_at w b).borders → IsFarOf w b j (border_in (block_at w b) j)
far_at w b j laid lb lj =
    let found = laid.filled.borders b j lb lj in
    let x = found.0 in
    let stands = found.2 in
    let at = laid.placed.borders x stands.direction stands.outer in
    let r = border_in (block_at w b) j in
    let same : border_of w x ≡ r = ap (λ h. border_in (block_at w h) (slot w x)) found.1 ∙ ap (border_in (block_at w b)) stands.slot in
    let is : r.direction ≡ x = sym (ap (λ (q : Border). q.direction) same) ∙ at.direction in
    let to : r.to ≡ node_block w (far w.net x) = sym (ap (λ (q : Border). q.to) same) ∙ at.to in
    let node = far_in w.net x laid.net stands.direction in
    let in_block = laid.placed.node_blocks (far w.net x) node in
    let row : IsRow w x true b j = record { direction = stands.direction; outer = stands.outer; node_block = found.1; slot = stands.slot; block = lb } in
    let here = subst (λ (h : ℕ). IsSpot w (far w.net x) h (far w.net x - slice_index w.firsts h)) (sym to) (record { node = node; node_block = refl; place = refl; block = in_block }) in
    record {
      is = refl;
      row = subst (λ (q : Direction). IsRow w q true b j) (sym is) row;
      firsts = omega (arith, to, in_block, laid.placed.firsts_len);
      first = subst (λ (q : Direction). slice_index w.firsts r.to ≤ far w.net q) (sym is) (subst (λ (h : ℕ). slice_index w.firsts h ≤ far w.net x) (sym to) (laid.placed.firsts (far w.net x) node));
      spot = subst (λ (q : Direction). IsSpot w (far w.net q) r.to (far w.net q - slice_index w.firsts r.to)) (sym is) here;
    }

-- what the code reads there
pub far_read : (w : Whole) (b j : ℕ) (B : CellsView) (r : Border) → IsLaid w → b < length w.blocks → B ≡ get_or w.blocks b B → j < length (block_at w b).borders → r ≡ border_in B j
    → IsFarOf w b j r
far_read w b j B r laid lb read lj e =
    let is : block_at w b ≡ B = sym (get_or_read w.blocks b B lb read no_block) in
    subst (IsFarOf w b j) (ap (λ (q : CellsView). border_in q j) is ∙ sym e) (far_at w b j laid lb lj)

-- ---- a direction is told

told_here : (v : BlocksView) (x : Direction) → core.is_border v.net v.blocks x ≡ true
    → record (core.lane_at v.lanes x) { known = slice_index v.labels (far v.net x) } ≡ told_lane v x
told_here v x e =
    sym (ap (λ (q : Bool). record (core.lane_at v.lanes x) { known = cond q (slice_index v.labels (far v.net x)) (core.lane_at v.lanes x).known }) e)

told_inner : (v : BlocksView) (x : Direction) → core.is_border v.net v.blocks x ≡ false → told_lane v x ≡ core.lane_at v.lanes x
told_inner v x e =
    ap (λ (q : Bool). record (core.lane_at v.lanes x) { known = cond q (slice_index v.labels (far v.net x)) (core.lane_at v.lanes x).known }) e

pub informed : (w : Whole) (b j : ℕ) → IsLaid w → b < length w.blocks → j < length (block_at w b).borders
    → IsAt (told_at w b j) (told_one (blocks_in w) (direction_at w b j)) b
    (block.cells_with_known (block_at w b) j (slice_index (blocks_in w).labels (far w.net (direction_at w b j))))
informed w b j laid lb lj =
    let x = direction_at w b j in
    let v = blocks_in w in
    let row = (far_at w b j laid lb lj).row in
    let at : IsAt w v b (block_at w b) = record { laid = laid; view = refl; block = lb; is = refl } in
    let made = informed_at w v b (block_at w b) x j (slice_index v.labels (far w.net x)) at row in
    subst (λ (q : Lane). IsAt (told_at w b j) (record v { lanes = core.put_lane v.lanes x q }) b (block.cells_with_known (block_at w b) j (slice_index v.labels (far w.net x))))
    (told_here v x row.outer) made

pub told_same : (a : BlocksView) (lanes : core.Lanes) (x : Direction) → core.lane_at lanes x ≡ core.lane_at a.lanes x
    → told_one (record a { lanes = lanes }) x ≡ record a { lanes = core.put_lane lanes x (told_lane a x) }
told_same a lanes x e =
    ap (λ (q : Lane). record a { lanes = core.put_lane lanes x (record q { known = cond (core.is_border a.net a.blocks x) (slice_index a.labels (far a.net x)) q.known }) }) e

-- ---- the directions of a block

pub telling_starts : (w : Whole) (b : ℕ) → IsLaid w → IsTelling w w b 0
telling_starts w b laid = record {
  laid = laid;
  slots = refl;
  number = refl;
  borders = refl;
  rest = refl;
  told = λ x l outer here below. absurd (omega (arith, below));
  others = λ x l from. refl;
}

long_of : (w : Whole) → IsLaid w → IsLongOf (length w.net.arcs) (blocks_in w).lanes
long_of w laid =
    let long = laid_long w (blocks_in w) laid refl in
    record { forth = long.forth; back = long.back }

outer_same : (w u : Whole) (x : Direction) → u.net ≡ w.net → length u.blocks ≡ length w.blocks → is_outer u x ≡ is_outer w x
outer_same w u x net number = rw (net, number) refl

node_block_same : (w u : Whole) (x : Direction) → u.net ≡ w.net → length u.blocks ≡ length w.blocks → near_node_block u x ≡ near_node_block w x
node_block_same w u x net number = rw (net, number) refl

slot_same : (w u : Whole) (x : Direction) → u.net ≡ w.net → u.slots ≡ w.slots → slot u x ≡ slot w x
slot_same w u x net slots = rw (net, slots) refl

pub telling_more : (w u t : Whole) (b j : ℕ) → IsTelling w u b j → b < length u.blocks → j < length (block_at u b).borders → t ≡ told_at u b j → IsLaid t
    → IsTelling w t b (j + 1)
telling_more w u t b j telling lb lj is laid =
    let a = blocks_in w in
    let v = blocks_in u in
    let x = direction_at u b j in
    let lane = told_lane a x in
    let row = (far_at u b j telling.laid lb lj).row in
    let net : u.net ≡ w.net = ap (λ (q : BlocksView). q.net) telling.rest in
    let x_in : IsDirection w.net x = subst (λ (n : Network). IsDirection n x) net row.direction in
    let x_slot : slot w x ≡ j = sym (slot_same w u x net telling.slots) ∙ row.slot in
    let was : core.lane_at v.lanes x ≡ core.lane_at a.lanes x = telling.others x x_in (λ o h. omega (arith, x_slot)) in
    let view : blocks_in t ≡ record a { lanes = core.put_lane v.lanes x lane } =
    ap blocks_in is ∙ ((informed u b j telling.laid lb lj).view ∙ (ap (λ (q : BlocksView). told_one q x) telling.rest ∙ told_same a v.lanes x was)) in
    let lanes : (blocks_in t).lanes ≡ core.put_lane v.lanes x lane = ap (λ (q : BlocksView). q.lanes) view in
    let new = block.cells_with_known (block_at u b) j (slice_index v.labels (far u.net x)) in
    let made : block_at t b ≡ new = ap (λ (q : Whole). block_at q b) is ∙ block_same u b new lb in
    record {
      laid = laid;
      slots = ap (λ (q : Whole). q.slots) is ∙ telling.slots;
      number = ap (λ (q : Whole). length q.blocks) is ∙ (length-set u.blocks b new ∙ telling.number);
      borders = ap (λ (q : CellsView). length q.borders) made ∙ (length-set (block_at u b).borders j _ ∙ telling.borders);
      rest = view ∙ ap (λ (q : core.Lanes). record a { lanes = q }) (sym lanes);
      told = λ y ly outer here below. ap (λ (q : core.Lanes). core.lane_at q y) lanes ∙ elim (cases_direction y x) [
        | inl e ↦ rw e (lane_same (length w.net.arcs) v.lanes x lane (subst (λ (n : Network). IsLongOf (length n.arcs) v.lanes) net (long_of u telling.laid)) x_in)
        | inr off ↦
            let apart : slot w y ≡ j → ⊥ = λ e. off (telling.laid.placed.apart y x (subst (λ (n : Network). IsDirection n y) (sym net) ly) row.direction
            (outer_same w u y net telling.number ∙ (outer ∙ sym row.outer)) (node_block_same w u y net telling.number ∙ (here ∙ sym row.node_block)) (slot_same w u y net telling.slots ∙ (e ∙ sym row.slot))) in
            lane_other v.lanes x y lane off ∙ telling.told y ly outer here (omega (arith, below, apart))
      ];
      others = λ y ly from. ap (λ (q : core.Lanes). core.lane_at q y) lanes ∙ (lane_other v.lanes x y lane
          (λ e. omega (arith, from (sym (outer_same w u y net telling.number) ∙ (ap (is_outer u) e ∙ row.outer)) (sym (node_block_same w u y net telling.number) ∙ (ap (near_node_block u) e ∙ row.node_block)), ap (slot w) e, x_slot))
          ∙ telling.others y ly (λ o h. omega (arith, from o h)));
    }

-- ---- the labels of a block

-- the numbers of the nodes of a block that has some: from its first on, as many as it has
pub nodes_of : (w : Whole) (b : ℕ) → IsLaid w → b < length w.blocks → 0 < count (block_at w b) → slice_index w.firsts b + count (block_at w b) ≤ nodes w.net
nodes_of w b laid lb some =
    let n = count (block_at w b) in
    let found = laid.filled.nodes b (n - 1) lb (omega (arith, some)) in
    let v = found.0 in
    let at = found.1 in
    let first = laid.placed.firsts v at.node in
    let here = ap (slice_index w.firsts) at.node_block in
    let is : v - slice_index w.firsts b ≡ n - 1 = sym (ap (λ h. v - slice_index w.firsts h) at.node_block) ∙ at.place in
    omega (arith, is, first, here, at.node, some)

abbrev view_of : Network → ℕ → List ℕ → List ℕ → List ℕ → core.Lanes → BlocksView
view_of net blocks excess labels rooms lanes = record { net = net; blocks = blocks; excess = excess; labels = labels; rooms = rooms; lanes = lanes }

same_view : (n : Network) (k k' : ℕ) (e e' l r r' : List ℕ) (q q' : core.Lanes) → k ≡ k' → e ≡ e' → r ≡ r' → q ≡ q' → view_of n k e l r q ≡ view_of n k' e' l r' q'
same_view n k k' e e' l r r' q q' e1 e2 e3 e4 = rw (e1, e2, e3, e4) refl

module _ (w : Whole) (b : ℕ) (labels : List ℕ) (laid : IsLaid w) (lb : b < length w.blocks) where
  pub labelled_none : count (block_at w b) ≡ 0 → HasLabelsInBlock w w b labels
  labelled_none none = record {
    laid = laid;
    rest = refl;
    here = λ v lv node_block. absurd (omega (arith, laid.placed.places v lv, ap (λ h. count (block_at w h)) node_block, none));
    others = λ v lv off. refl;
  }

  abbrev new_block : CellsView
  new_block =
      record (block_at w b) { labels = slice_range labels (slice_index w.firsts b) (slice_index w.firsts b + count (block_at w b)) }

  like : slice_index w.firsts b + count (block_at w b) ≤ length labels → IsLike (block_at w b) new_block
  like le = record {
    top = refl;
    count = refl;
    labels_len =
        omega (arith, length_range labels (slice_index w.firsts b) (slice_index w.firsts b + count (block_at w b)) le, laid.filled.labels b lb);
    starts = refl;
    border_starts = refl;
    lanes_len = refl;
    borders_len = refl;
    far = λ j. refl;
    lane_opposite = λ j. refl;
    direction = λ j. refl;
    near = λ j. refl;
    to = λ j. refl;
    opposite = λ j. refl;
    capacity = λ j. refl;
  }

  label_now : (v : ℕ) → v < nodes w.net → slice_index (blocks_in (put_block w b new_block)).labels v ≡ slice_index (block_at (put_block w b new_block) (node_block w v)).labels (place w v)
  label_now v lv =
      let u = put_block w b new_block in
      table_at (nodes w.net) (λ i. slice_index (block_with u i).labels (place u i)) v 0 lv
      ∙ (ap (slice_index (block_with u v).labels) (place_put w b new_block v)
      ∙ ap (λ h. slice_index (block_at u h).labels (place w v)) (node_block_put w b new_block v))

  pub labelled_block : slice_index w.firsts b + count (block_at w b) ≤ length labels → HasLabelsInBlock w (put_block w b new_block) b labels
  labelled_block le =
      let u = put_block w b new_block in
      let first = slice_index w.firsts b in
      record {
        laid = laid_put w b new_block laid lb (like le);
        rest = same_view w.net _ _ _ _ _ _ _ _ _ (length-set w.blocks b new_block)
            (numbers_same (λ (q : CellsView). q.excess) w b new_block lb refl)
            (numbers_same (λ (q : CellsView). q.rooms) w b new_block lb refl)
            (lanes_keep w b new_block lb refl refl);
        here = λ v lv node_block.
            let low = laid.placed.firsts v lv in
            let low' = ap (slice_index w.firsts) node_block in
            let at : place w v ≡ v - first = ap (λ h. v - slice_index w.firsts h) node_block in
            let inside : place w v < count (block_at w b) = omega (arith, laid.placed.places v lv, ap (λ h. count (block_at w h)) node_block) in
            label_now v lv
            ∙ (ap (λ h. slice_index (block_at u h).labels (place w v)) node_block
            ∙ (ap (λ (q : CellsView). slice_index q.labels (place w v)) (block_same w b new_block lb)
            ∙ (range_at labels first (first + count (block_at w b)) (place w v) 0 (omega (arith, inside))
            ∙ ap (slice_index labels) (omega (arith, at, low, low')))));
        others = λ v lv off.
            label_now v lv
            ∙ (ap (λ (q : CellsView). slice_index q.labels (place w v)) (block_other w b new_block (node_block w v) off)
            ∙ sym (table_at (nodes w.net) (λ i. slice_index (block_with w i).labels (place w i)) v 0 lv));
      }

-- what the code reads of a block that has nodes
pub record IsReadBlock (w : Whole) (b : ℕ) (B : CellsView) (n f : ℕ) : Type 0 where
  pub is : block_at w b ≡ B
  pub many : n ≡ count (block_at w b)
  pub first : f ≡ slice_index w.firsts b
  pub within : f + n ≤ nodes w.net

pub read_block : (w : Whole) (b : ℕ) (B : CellsView) (n f : ℕ) → IsLaid w → b < length w.blocks → B ≡ get_or w.blocks b B → n ≡ count B → (n ≡ 0 → ⊥)
    → f ≡ get_or w.firsts b f → IsReadBlock w b B n f
read_block w b B n f laid lb read is_n some is_f =
    let is : block_at w b ≡ B = sym (get_or_read w.blocks b B lb read no_block) in
    let n' : n ≡ count (block_at w b) = is_n ∙ ap count (sym is) in
    let first' : f ≡ slice_index w.firsts b = get_or_read w.firsts b f (omega (arith, lb, laid.placed.firsts_len)) is_f 0 in
    record { is = is; many = n'; first = first'; within = omega (arith, n', first', nodes_of w b laid lb (omega (arith, n', some))) }

-- ---- what the blocks show

pub told_view : (w u : Whole) (b : ℕ) → IsLaid w → b < length w.blocks → IsTelling w u b (length (block_at w b).borders) → IsToldFrom (blocks_in w) (blocks_in u) b
told_view w u b laid lb telling =
    let net : u.net ≡ w.net = ap (λ (q : BlocksView). q.net) telling.rest in
    let long = subst (λ (n : Network). IsLongOf (length n.arcs) (blocks_in u).lanes) net (long_of u telling.laid) in
    record {
      net = laid.net;
      rest = telling.rest;
      forth = long.forth;
      back = long.back;
      told = λ x l here. elim (cases_Bool (is_outer w x)) [
        | inl outer ↦
            let within = (laid.placed.borders x l outer).within in
            telling.told x l outer here (omega (arith, within, ap (λ h. length (block_at w h).borders) here))
        | inr inner ↦
            telling.others x l (λ o h. absurd (false≢true (sym inner ∙ o))) ∙ sym (told_inner (blocks_in w) x inner)
      ];
      others = λ x l off. telling.others x l (λ o h. absurd (off h));
    }

pub relabelled_view : (w u : Whole) (b : ℕ) (labels : List ℕ) → HasLabelsInBlock w u b labels → IsRelabelled (blocks_in w) (blocks_in u) b labels
relabelled_view w u b labels is =
    let net : u.net ≡ w.net = ap (λ (q : BlocksView). q.net) is.rest in
    record {
      rest = is.rest;
      len = (laid_long u (blocks_in u) is.laid refl).labels ∙ ap nodes net;
      here = is.here;
      others = is.others;
    }

-- ---- block after block

-- the directions of the first so many blocks know the labels, the others know what they knew
pub record IsToldBelow (old now : BlocksView) (many : ℕ) : Type 0 where
  pub rest : now ≡ record old { lanes = now.lanes }
  pub net : 0 < many → IsNet old.net
  pub long : 0 < many → IsLongOf (length old.net.arcs) now.lanes
  pub told : (x : Direction) → IsDirection old.net x → core.block_of old.net old.blocks (near old.net x) < many → core.lane_at now.lanes x ≡ told_lane old x
  pub others : (x : Direction) → IsDirection old.net x → many ≤ core.block_of old.net old.blocks (near old.net x) → core.lane_at now.lanes x ≡ core.lane_at old.lanes x

pub told_none : (a : BlocksView) → IsToldBelow a a 0
told_none a = record { rest = refl; net = λ l. absurd (omega (arith, l)); long = λ l. absurd (omega (arith, l)); told = λ x l below. absurd (omega (arith, below)); others = λ x l from. refl }

same_told : (a : BlocksView) (lanes : core.Lanes) (x : Direction) → core.lane_at lanes x ≡ core.lane_at a.lanes x → told_lane (record a { lanes = lanes }) x ≡ told_lane a x
same_told a lanes x e =
    ap (λ (q : Lane). record q { known = cond (core.is_border a.net a.blocks x) (slice_index a.labels (far a.net x)) q.known }) e

told_next : (a : BlocksView) (lanes : core.Lanes) (c : BlocksView) (k : ℕ) → IsToldBelow a (record a { lanes = lanes }) k → IsToldFrom (record a { lanes = lanes }) c k
    → IsToldBelow a c (k + 1)
told_next a lanes c k told from = record {
  rest = from.rest;
  net = λ l. from.net;
  long = λ l. record { forth = from.forth; back = from.back };
  told = λ x l below. elim (cases_eq (core.block_of a.net a.blocks (near a.net x)) k) [
    | inl e ↦ from.told x l e ∙ same_told a lanes x (told.others x l (omega (arith, e)))
    | inr off ↦ from.others x l off ∙ told.told x l (omega (arith, below, off))
  ];
  others = λ x l above. from.others x l (λ e. omega (arith, e, above)) ∙ told.others x l (omega (arith, above));
}

pub told_more : (a b c : BlocksView) (k : ℕ) → IsToldBelow a b k → IsToldFrom b c k → IsToldBelow a c (k + 1)
told_more a b c k told from =
    told_next a b.lanes c k (subst (λ (q : BlocksView). IsToldBelow a q k) told.rest told) (subst (λ (q : BlocksView). IsToldFrom q c k) told.rest from)

same_lane_lists : (m : ℕ) (lanes : List Lane) (f : ℕ → Lane) → length lanes ≡ m → ((k : ℕ) → k < m → get_or lanes k core.no_lane ≡ f k) → lanes ≡ map f (range_with_len 0 m)
same_lane_lists m lanes f len each =
    same_lists lanes (map f (range_with_len 0 m)) (len ∙ sym (length-map-range_with_len f 0 m)) (λ k d l.
    let lk : k < m = omega (arith, l, len) in
    get_or_default lanes k d core.no_lane l ∙ (each k lk ∙ sym (get_or-map-range_with_len f 0 m k k d lk (omega arith))))

same_lanes : (a b : core.Lanes) → a.forth ≡ b.forth → a.back ≡ b.back → a ≡ b
same_lanes a b forth back =
    let c : core.Lanes = record { forth = b.forth; back = a.back } in
    ap (λ (q : List Lane). let r : core.Lanes = record { forth = q; back = a.back } in r) forth ∙ ap (λ (q : List Lane). let r : core.Lanes = record { forth = b.forth; back = q } in r) back

pub told_done : (a b : BlocksView) → 1 ≤ a.blocks → IsToldBelow a b a.blocks → b ≡ blocks_with_known_labels a
told_done a b some below =
    let m = length a.net.arcs in
    let long = below.long some in
    let each : (x : Direction) → IsDirection a.net x → core.lane_at b.lanes x ≡ told_lane a x = λ x l. below.told x l (block_in a.net a.blocks (near a.net x) (near_in a.net x (below.net some) l) some) in
    let forth = same_lane_lists m b.lanes.forth (λ k. told_lane a (forward k)) long.forth (λ k l. each (forward k) l) in
    let back = same_lane_lists m b.lanes.back (λ k. told_lane a (backward k)) long.back (λ k l. each (backward k) l) in
    below.rest ∙ ap (λ (q : core.Lanes). record a { lanes = q }) (same_lanes b.lanes _ forth back)

-- the nodes of the first so many blocks have the labels of a list
pub record IsRelabelledBelow (old now : BlocksView) (labels : List ℕ) (many : ℕ) : Type 0 where
  pub rest : now ≡ record old { labels = now.labels }
  pub len : 0 < many → length now.labels ≡ nodes old.net
  pub here : (v : ℕ) → v < nodes old.net → core.block_of old.net old.blocks v < many → slice_index now.labels v ≡ slice_index labels v

pub relabelled_none : (a : BlocksView) (labels : List ℕ) → IsRelabelledBelow a a labels 0
relabelled_none a labels = record { rest = refl; len = λ l. absurd (omega (arith, l)); here = λ v l below. absurd (omega (arith, below)) }

relabelled_next : (a : BlocksView) (was : List ℕ) (c : BlocksView) (labels : List ℕ) (k : ℕ) → IsRelabelledBelow a (record a { labels = was }) labels k
    → IsRelabelled (record a { labels = was }) c k labels → IsRelabelledBelow a c labels (k + 1)
relabelled_next a was c labels k below is = record {
  rest = is.rest;
  len = λ l. is.len;
  here = λ v l less. elim (cases_eq (core.block_of a.net a.blocks v) k) [
    | inl e ↦ is.here v l e
    | inr off ↦ is.others v l off ∙ below.here v l (omega (arith, less, off))
  ];
}

pub relabelled_more : (a b c : BlocksView) (labels : List ℕ) (k : ℕ) → IsRelabelledBelow a b labels k → IsRelabelled b c k labels → IsRelabelledBelow a c labels (k + 1)
relabelled_more a b c labels k below is =
    relabelled_next a b.labels c labels k (subst (λ (q : BlocksView). IsRelabelledBelow a q labels k) below.rest below) (subst (λ (q : BlocksView). IsRelabelled q c k labels) below.rest is)

pub relabelled_done : (a b : BlocksView) (labels : List ℕ) → 1 ≤ a.blocks → length labels ≡ nodes a.net → IsRelabelledBelow a b labels a.blocks → b ≡ record a { labels = labels }
relabelled_done a b labels some len below =
    let long = below.len some in
    below.rest ∙ ap (λ (q : List ℕ). record a { labels = q })
    (ext_get_or 0 b.labels labels (long ∙ sym len) (λ v l.
    let lv : v < nodes a.net = omega (arith, l, long) in
    below.here v lv (block_in a.net a.blocks v lv some)))
