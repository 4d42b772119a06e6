-- Rows show the residual directions of the flow that they carry, and keep showing them as amounts
-- are sent.
use Rattle.std.proofs.Common.{◌≡◌, ◌≢◌, ℕ, ◌+◌, ◌-◌, ◌<◌, ◌≤◌, ◌⊎◌, inl, inr, List, length, map, set, slice_index, sym, ◌∙◌, ap, subst, arith, get_or-set_same, get_or-set_other}
use Rattle.std.proofs.Math.ListN.{get_or-map}
use Rattle.std.proofs.lemmas.Bool.{cases_eq}
use Rattle.std.proofs.lemmas.Grind.{same_number_lists}
use Rattle.std.proofs.lemmas.List.{get_or_default, length-map, length-set}
use Rattle.flow_network.specs.Cut.{Network, nodes, IsNet}
use Rattle.flow_network.specs.Preflow.{arc_at, IsResidual}
use Rattle.flow_network.proofs.Duality.{arc_is}
use Rattle.sink_distances.specs.declared.rows.Rows.{Rows}
use Rattle.sink_distances.specs.Rows.{arc_ends, head_at, opposite_at, residual_at, start_at, end_at, firsts_of, places_of, first_at, second_at, carried_flow, IsPlace, IsPlaceOf, IsRows, IsSent, HaveRowRoom}
use Rattle.sink_distances.specs.Search.{IsBefore}

-- ---- what each arc carries

pub carried_at : (net : Network) (rows : Rows) (k : ℕ) → IsRows net rows → k < length net.arcs
    → slice_index (carried_flow rows) k ≡ residual_at rows (second_at rows k)
carried_at net rows k h l =
    let f = λ (p : ℕ). residual_at rows (opposite_at rows p) in
    let long : k < length (map f (firsts_of rows)) = omega (arith, length-map (firsts_of rows) f, h.firsts_len) in
    get_or_default (map f (firsts_of rows)) k 0 (f 0) long ∙ get_or-map f (firsts_of rows) k 0

pub carried_len : (net : Network) (rows : Rows) → IsRows net rows → length (carried_flow rows) ≡ length net.arcs
carried_len net rows h = length-map (firsts_of rows) (λ p. residual_at rows (opposite_at rows p)) ∙ h.firsts_len

-- ---- a place of a row

-- what is known of a direction: it leads from its row's node to another node's row, where its
-- opposite stands
pub record IsDirected (net : Network) (rows : Rows) (v p : ℕ) : Type 0 where
  pub place : p < length rows.cells.items
  pub back : opposite_at rows p < length rows.cells.items
  pub turn : opposite_at rows (opposite_at rows p) ≡ p
  pub other : opposite_at rows p ≢ p
  pub tail : head_at rows (opposite_at rows p) ≡ v
  pub head : head_at rows p < nodes net

directed_of : (net : Network) (rows : Rows) (v p : ℕ) → IsNet net → IsRows net rows → IsPlaceOf net rows v p → IsDirected net rows v p
directed_of net rows v p h r (k, l, inl (at, from)) =
    let s = r.arcs k l in
    let e = ap (opposite_at rows) at in
    record {
      place = omega (arith, at, s.first);
      back = omega (arith, e, s.second);
      turn = ap (opposite_at rows) e ∙ (s.turn ∙ sym at);
      other = λ same. r.apart k k l l (sym at ∙ (sym same ∙ e));
      tail = ap (head_at rows) e ∙ (s.tail ∙ from);
      head = omega (arith, ap (head_at rows) at, s.head, (arc_is net h k l).to);
    }
directed_of net rows v p h r (k, l, inr (at, to)) =
    let s = r.arcs k l in
    let e : opposite_at rows p ≡ first_at rows k = ap (opposite_at rows) at ∙ s.turn in
    record {
      place = omega (arith, at, s.second);
      back = omega (arith, e, s.first);
      turn = ap (opposite_at rows) e ∙ sym at;
      other = λ same. r.apart k k l l (sym e ∙ (same ∙ at));
      tail = ap (head_at rows) e ∙ (s.head ∙ to);
      head = omega (arith, ap (head_at rows) at, s.tail, (arc_is net h k l).from);
    }

pub directed : (net : Network) (rows : Rows) (v p : ℕ) → IsNet net → IsRows net rows → v < nodes net → IsPlace rows v p → IsDirected net rows v p
directed net rows v p h r l place = directed_of net rows v p h r (r.each v p l place)

-- ---- residual directions

before_of : (net : Network) (rows : Rows) (w p : ℕ) → IsRows net rows → IsPlaceOf net rows w p → 0 < residual_at rows (opposite_at rows p)
    → IsBefore net (carried_flow rows) w (head_at rows p)
before_of net rows w p r (k, l, inl (at, from)) some =
    let s = r.arcs k l in
    let e = ap (λ (q : ℕ). residual_at rows (opposite_at rows q)) at in
    (k, l, inr (sym (ap (head_at rows) at ∙ s.head), from, omega (arith, carried_at net rows k r l, e, some)))
before_of net rows w p r (k, l, inr (at, to)) some =
    let s = r.arcs k l in
    let e : opposite_at rows p ≡ first_at rows k = ap (opposite_at rows) at ∙ s.turn in
    (k, l, inl (sym (ap (head_at rows) at ∙ s.tail), to, omega (arith, carried_at net rows k r l, ap (residual_at rows) e, s.capacity, some)))

-- a direction whose opposite can carry more is the way back along a residual one
pub place_before : (net : Network) (rows : Rows) (w p : ℕ) → IsRows net rows → w < nodes net → IsPlace rows w p
    → 0 < residual_at rows (opposite_at rows p) → IsBefore net (carried_flow rows) w (head_at rows p)
place_before net rows w p r l place some = before_of net rows w p r (r.each w p l place) some

-- each residual direction to a node has its way back in the node's row
pub before_place : (net : Network) (rows : Rows) (w v : ℕ) → IsRows net rows → IsBefore net (carried_flow rows) w v
    → (p : ℕ) × IsPlace rows w p × (head_at rows p ≡ v) × (0 < residual_at rows (opposite_at rows p))
before_place net rows w v r (k, l, inl (from, to, room)) =
    let s = r.arcs k l in
    let e = ap (residual_at rows) s.turn in
    (second_at rows k, subst (λ u. IsPlace rows u (second_at rows k)) to s.enters, s.tail ∙ from, omega (arith, carried_at net rows k r l, s.capacity, room, e))
before_place net rows w v r (k, l, inr (to, from, some)) =
    let s = r.arcs k l in
    (first_at rows k, subst (λ u. IsPlace rows u (first_at rows k)) from s.leaves, s.head ∙ to, omega (arith, carried_at net rows k r l, some))

-- each residual direction of a node stands in its row
pub residual_place : (net : Network) (rows : Rows) (sinks : List ℕ) (v w : ℕ) → IsRows net rows
    → IsResidual net (record { arcs = carried_flow rows; sinks = sinks }) v w
    → (p : ℕ) × IsPlace rows v p × (head_at rows p ≡ w) × (0 < residual_at rows p)
residual_place net rows sinks v w r (k, l, inl (from, to, room)) =
    let s = r.arcs k l in
    (first_at rows k, subst (λ u. IsPlace rows u (first_at rows k)) from s.leaves, s.head ∙ to, omega (arith, carried_at net rows k r l, s.capacity, room))
residual_place net rows sinks v w r (k, l, inr (to, from, some)) =
    let s = r.arcs k l in
    (second_at rows k, subst (λ u. IsPlace rows u (second_at rows k)) to s.enters, s.tail ∙ from, omega (arith, carried_at net rows k r l, some))

residual_of : (net : Network) (rows : Rows) (sinks : List ℕ) (v p : ℕ) → IsRows net rows → IsPlaceOf net rows v p → 0 < residual_at rows p
    → IsResidual net (record { arcs = carried_flow rows; sinks = sinks }) v (head_at rows p)
residual_of net rows sinks v p r (k, l, inl (at, from)) some =
    let s = r.arcs k l in
    (k, l, inl (from, sym (ap (head_at rows) at ∙ s.head), omega (arith, carried_at net rows k r l, ap (residual_at rows) at, s.capacity, some)))
residual_of net rows sinks v p r (k, l, inr (at, to)) some =
    let s = r.arcs k l in
    (k, l, inr (to, sym (ap (head_at rows) at ∙ s.tail), omega (arith, carried_at net rows k r l, ap (residual_at rows) at, some)))

-- a direction that can carry more is residual
pub place_residual : (net : Network) (rows : Rows) (sinks : List ℕ) (v p : ℕ) → IsRows net rows → v < nodes net → IsPlace rows v p
    → 0 < residual_at rows p → IsResidual net (record { arcs = carried_flow rows; sinks = sinks }) v (head_at rows p)
place_residual net rows sinks v p r l place some = residual_of net rows sinks v p r (r.each v p l place) some

-- ---- an amount is sent

sent_starts : (old new : Rows) (p z v : ℕ) → IsSent old new p z → start_at new v ≡ start_at old v
sent_starts old new p z v s = ap (λ (xs : List ℕ). slice_index xs v) s.starts

sent_ends : (old new : Rows) (p z v : ℕ) → IsSent old new p z → end_at new v ≡ end_at old v
sent_ends old new p z v s = ap (λ (xs : List ℕ). slice_index xs v) s.ends

sent_first : (old new : Rows) (p z k : ℕ) → IsSent old new p z → first_at new k ≡ first_at old k
sent_first old new p z k s = ap (λ (xs : List ℕ). slice_index xs k) s.firsts

sent_opposite : (old new : Rows) (p z q q' : ℕ) → IsSent old new p z → q' ≡ q → opposite_at new q' ≡ opposite_at old q
sent_opposite old new p z q q' s e = s.opposites q' ∙ ap (opposite_at old) e

sent_head : (old new : Rows) (p z q q' : ℕ) → IsSent old new p z → q' ≡ q → head_at new q' ≡ head_at old q
sent_head old new p z q q' s e = s.heads q' ∙ ap (head_at old) e

pub sent_place : (old new : Rows) (p z v q : ℕ) → IsSent old new p z → IsPlace old v q → IsPlace new v q
sent_place old new p z v q s (low, high) = (omega (arith, sent_starts old new p z v s, low), omega (arith, sent_ends old new p z v s, high))

pub place_sent : (old new : Rows) (p z v q : ℕ) → IsSent old new p z → IsPlace new v q → IsPlace old v q
place_sent old new p z v q s (low, high) = (omega (arith, sent_starts old new p z v s, low), omega (arith, sent_ends old new p z v s, high))

-- what a direction and its opposite can carry together stays
sum_sent : (net : Network) (old new : Rows) (p z j k : ℕ) → IsRows net old → IsSent old new p z → z ≤ residual_at old p
    → j < length net.arcs → k < length net.arcs → ((p ≡ first_at old k) ⊎ (p ≡ second_at old k))
    → residual_at new (first_at old j) + residual_at new (second_at old j) ≡ residual_at old (first_at old j) + residual_at old (second_at old j)
sum_sent net old new p z j k r s le lj lk (inl at) =
    let e = ap (opposite_at old) at in
    elim (cases_eq j k) [
      | inl same ↦
          let n1 = ap (residual_at new) at in
          let o1 = ap (residual_at old) at in
          let n2 = ap (residual_at new) e in
          let o2 = ap (residual_at old) e in
          rw same (omega (arith, n1, o1, n2, o2, s.here, s.there, le))
      | inr off ↦
          let f1 : first_at old j ≢ p = λ x. off (r.once j k lj lk (x ∙ at)) in
          let f2 : first_at old j ≢ opposite_at old p = λ x. r.apart j k lj lk (x ∙ e) in
          let s1 : second_at old j ≢ p = λ x. r.apart k j lk lj (sym at ∙ sym x) in
          let s2 : second_at old j ≢ opposite_at old p = λ x.
          off (r.once j k lj lk (sym (r.arcs j lj).turn ∙ (ap (opposite_at old) (x ∙ e) ∙ (r.arcs k lk).turn))) in
          omega (arith, s.others (first_at old j) f1 f2, s.others (second_at old j) s1 s2)
    ]
sum_sent net old new p z j k r s le lj lk (inr at) =
    let e : opposite_at old p ≡ first_at old k = ap (opposite_at old) at ∙ (r.arcs k lk).turn in
    elim (cases_eq j k) [
      | inl same ↦
          let n1 = ap (residual_at new) at in
          let o1 = ap (residual_at old) at in
          let n2 = ap (residual_at new) e in
          let o2 = ap (residual_at old) e in
          rw same (omega (arith, n1, o1, n2, o2, s.here, s.there, le))
      | inr off ↦
          let f1 : first_at old j ≢ p = λ x. r.apart j k lj lk (x ∙ at) in
          let f2 : first_at old j ≢ opposite_at old p = λ x. off (r.once j k lj lk (x ∙ e)) in
          let s1 : second_at old j ≢ p = λ x.
          off (r.once j k lj lk (sym (r.arcs j lj).turn ∙ (ap (opposite_at old) (x ∙ at) ∙ (r.arcs k lk).turn))) in
          let s2 : second_at old j ≢ opposite_at old p = λ x. r.apart k j lk lj (sym (x ∙ e)) in
          omega (arith, s.others (first_at old j) f1 f2, s.others (second_at old j) s1 s2)
    ]

side_of : (net : Network) (rows : Rows) (v p : ℕ) → IsPlaceOf net rows v p
    → (k : ℕ) × (k < length net.arcs) × ((p ≡ first_at rows k) ⊎ (p ≡ second_at rows k))
side_of net rows v p (k, l, inl (at, end)) = (k, l, inl at)
side_of net rows v p (k, l, inr (at, end)) = (k, l, inr at)

of_sent : (net : Network) (old new : Rows) (p z v q : ℕ) → IsSent old new p z → IsPlaceOf net old v q → IsPlaceOf net new v q
of_sent net old new p z v q s (k, l, inl (at, end)) = (k, l, inl (at ∙ sym (sent_first old new p z k s), end))
of_sent net old new p z v q s (k, l, inr (at, end)) =
    (k, l, inr (at ∙ sym (sent_opposite old new p z (first_at old k) (first_at new k) s (sent_first old new p z k s)), end))

sent_room : (net : Network) (old new : Rows) → new.starts.items ≡ old.starts.items → length new.cells.items ≡ length old.cells.items
    → HaveRowRoom (nodes net) (arc_ends net.arcs) (start_at old) (length old.cells.items)
    → HaveRowRoom (nodes net) (arc_ends net.arcs) (start_at new) (length new.cells.items)
sent_room net old new starts len room =
    let R : ℕ → Type 0 = λ total. HaveRowRoom (nodes net) (arc_ends net.arcs) (start_at new) total in
    let S : List ℕ → Type 0 = λ xs. HaveRowRoom (nodes net) (arc_ends net.arcs) (slice_index xs) (length old.cells.items) in
    subst R (sym len) (subst S (sym starts) room)

-- rows keep showing the net
pub rows_sent : (net : Network) (old new : Rows) (v p z : ℕ) → IsRows net old → v < nodes net → IsPlace old v p → z ≤ residual_at old p
    → IsSent old new p z → IsRows net new
rows_sent net old new v p z r lv place le s =
    let side = side_of net old v p (r.each v p lv place) in
    let first = λ (k : ℕ). sent_first old new p z k s in
    let second : (k : ℕ) → second_at new k ≡ second_at old k = λ k. sent_opposite old new p z (first_at old k) (first_at new k) s (first k) in
    record {
      starts_len = ap (length {A = ℕ}) s.starts ∙ r.starts_len;
      ends_len = ap (length {A = ℕ}) s.ends ∙ r.ends_len;
      few = omega (arith, s.len, r.few);
      firsts = s.firsts ∙ r.firsts ∙ ap (λ (xs : List ℕ). places_of (slice_index xs) net) (sym s.starts);
      firsts_len = ap (length {A = ℕ}) s.firsts ∙ r.firsts_len;
      room = sent_room net old new s.starts s.len r.room;
      within = λ u l. omega (arith, sent_ends old new p z u s, s.len, r.within u l);
      arcs = λ k l.
          let a = r.arcs k l in
          record {
            first = omega (arith, first k, s.len, a.first);
            second = omega (arith, second k, s.len, a.second);
            turn = sent_opposite old new p z (second_at old k) (second_at new k) s (second k) ∙ (a.turn ∙ sym (first k));
            head = sent_head old new p z (first_at old k) (first_at new k) s (first k) ∙ a.head;
            tail = sent_head old new p z (second_at old k) (second_at new k) s (second k) ∙ a.tail;
            leaves = subst (IsPlace new (arc_at net k).from) (sym (first k)) (sent_place old new p z (arc_at net k).from (first_at old k) s a.leaves);
            enters = subst (IsPlace new (arc_at net k).to) (sym (second k)) (sent_place old new p z (arc_at net k).to (second_at old k) s a.enters);
            capacity = omega (arith, ap (residual_at new) (first k), ap (residual_at new) (second k), sum_sent net old new p z k side.0 r s le l side.1 side.2, a.capacity);
          };
      each = λ u q l at. of_sent net old new p z u q s (r.each u q l (place_sent old new p z u q s at));
      once = λ j k lj lk e. r.once j k lj lk (sym (first j) ∙ (e ∙ first k));
      apart = λ j k lj lk e. r.apart j k lj lk (sym (first j) ∙ (e ∙ second k));
    }

-- the arc of the direction carries as much more or less
carried_sent : (net : Network) (old new : Rows) (p z k y : ℕ) → IsRows net old → IsRows net new → IsSent old new p z → k < length net.arcs
    → residual_at new (second_at old k) ≡ y → ((j : ℕ) → j < length net.arcs → j ≢ k → residual_at new (second_at old j) ≡ residual_at old (second_at old j))
    → carried_flow new ≡ set (carried_flow old) k y
carried_sent net old new p z k y r r' s l here others =
    let len = carried_len net old r in
    let len' = carried_len net new r' in
    let set_len = length-set (carried_flow old) k y in
    let second : (j : ℕ) → second_at new j ≡ second_at old j = λ j. sent_opposite old new p z (first_at old j) (first_at new j) s (sent_first old new p z j s) in
    same_number_lists (carried_flow new) (set (carried_flow old) k y) (len' ∙ sym (set_len ∙ len))
    (λ j lj.
    let inside : j < length net.arcs = omega (arith, lj, len') in
    let now : slice_index (carried_flow new) j ≡ residual_at new (second_at old j) = carried_at net new j r' inside ∙ ap (residual_at new) (second j) in
    elim (cases_eq j k) [
      | inl same ↦
          now ∙ (ap (λ (i : ℕ). residual_at new (second_at old i)) same ∙ (here ∙ (sym (get_or-set_same (carried_flow old) k y 0 (omega (arith, l, len))) ∙ ap (slice_index (set (carried_flow old) k y)) (sym same))))
      | inr off ↦ now ∙ (others j inside off ∙ (sym (carried_at net old j r inside) ∙ sym (get_or-set_other (carried_flow old) k j y 0 off)))
    ])

pub carried_forth : (net : Network) (old new : Rows) (p z k : ℕ) → IsRows net old → IsRows net new → IsSent old new p z → k < length net.arcs
    → p ≡ first_at old k → carried_flow new ≡ set (carried_flow old) k (slice_index (carried_flow old) k + z)
carried_forth net old new p z k r r' s l at =
    let e = ap (opposite_at old) at in
    carried_sent net old new p z k (slice_index (carried_flow old) k + z) r r' s l
    (omega (arith, carried_at net old k r l, ap (residual_at new) e, ap (residual_at old) e, s.there))
    (λ j lj off. s.others (second_at old j) (λ x. r.apart k j l lj (sym at ∙ sym x))
    (λ x. off (r.once j k lj l (sym (r.arcs j lj).turn ∙ (ap (opposite_at old) (x ∙ e) ∙ (r.arcs k l).turn)))))

pub carried_back : (net : Network) (old new : Rows) (p z k : ℕ) → IsRows net old → IsRows net new → IsSent old new p z → k < length net.arcs
    → p ≡ second_at old k → carried_flow new ≡ set (carried_flow old) k (slice_index (carried_flow old) k - z)
carried_back net old new p z k r r' s l at =
    let e : opposite_at old p ≡ first_at old k = ap (opposite_at old) at ∙ (r.arcs k l).turn in
    carried_sent net old new p z k (slice_index (carried_flow old) k - z) r r' s l
    (omega (arith, carried_at net old k r l, ap (residual_at new) at, ap (residual_at old) at, s.here))
    (λ j lj off. s.others (second_at old j)
    (λ x. off (r.once j k lj l (sym (r.arcs j lj).turn ∙ (ap (opposite_at old) (x ∙ at) ∙ (r.arcs k l).turn))))
    (λ x. r.apart k j l lj (sym (x ∙ e))))
