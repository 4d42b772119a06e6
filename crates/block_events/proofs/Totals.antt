-- What arcs, nodes and the sink hold after a round.
use Rattle.std.proofs.Common.{◌≡◌, ℕ, ◌+◌, ◌-◌, ◌<◌, ◌≤◌, Bool, true, false, eqb, List, length, get_or, slice_index, sum, refl, sym, ◌∙◌, ap, inl, inr, arith}
use Rattle.std.proofs.lemmas.Bool.{cases_Bool, eqb-true}
use Rattle.std.specs.Prelude.{◌&&◌}
use Rattle.sums.specs.Sums.{sum_below, count_if}
use Rattle.sums.proofs.SumLemmas.{sum_below-add, sum_below-same, sum_below-swap, sum_below-pick, counted-zero}
use Rattle.flow_network.specs.Cut.{Network, nodes}
use Rattle.flow_network.specs.Preflow.{arc_at}
use Rattle.flow_network.proofs.Bounds.{sum_is}
use Rattle.block_events.specs.declared.direction.Direction.{Direction}
use Rattle.block_events.specs.declared.message.Message.{Message}
use Rattle.block_events.specs.declared.message.Message.TheVariants.{Parcel, Accepted, Refused}
use Rattle.block_events.specs.Directions.{forward, backward, alike, sum_leaving}
use Rattle.block_events.specs.States.{State, Lane, lane_at, way_at, over_messages, excess_of, label_of, room_of, residual_of, near_block, far_block, block_of, is_border}
use Rattle.block_events.specs.Soundness.{IsSquare, carries, carries_on, first_residual}
use Rattle.block_events.proofs.Lanes.{border_opposite}
use Rattle.block_events.proofs.Ends.{near_block_in, far_block_in, block_in}
use Rattle.block_events.specs.Workers.{IsBetween, IsAddressed}
use Rattle.block_events.proofs.Words.{turned, parcels, back, self}
use Rattle.block_events.proofs.Adding.{over_same, over_both, over_none, over_sum, sum_none, sum_same, sum_only, leaving_same, all_leave}
use Rattle.block_events.proofs.Joining.{IsMet, good_new, parcels_away, back_away, linked, ends_of, not_border}

-- ---- the residuals of an arc

both_senses : (t b : Bool) (a : ℕ) → count_if t a ≡ count_if (t && alike b false) a + count_if (t && alike b true) a
both_senses true true a = omega arith
both_senses true false a = omega arith
both_senses false b a = refl

abbrev carried : Direction → Message → ℕ
carried x m = parcels self x m + back self x m

carries_parts : (k : ℕ) (m : Message) → carries_on k m ≡ carried (forward k) m + carried (backward k) m
carries_parts k (Parcel y a d) = omega (arith, both_senses (eqb y.arc k) y.back a)
carries_parts k (Accepted y a) = counted-zero (eqb y.arc k) 0 (λ h. refl)
carries_parts k (Refused y a d told) = omega (arith, both_senses (eqb y.arc k) y.back a)

over_arc : (n k : ℕ) (ways : List (List (List Message))) → IsSquare n ways
    → over_messages (carries_on k) ways
    ≡ over_messages (parcels self (forward k)) ways + over_messages (back self (forward k)) ways
    + (over_messages (parcels self (backward k)) ways + over_messages (back self (backward k)) ways)
over_arc n k ways sq =
    let same = over_same n (carries_on k) (λ m. carried (forward k) m + carried (backward k) m) ways sq (λ i j li lj.
    sum_same (carries_on k) (λ m. carried (forward k) m + carried (backward k) m) (way_at ways i j) (λ q d l. carries_parts k (get_or (way_at ways i j) q d))) in
    omega (
      arith,
      same,
      over_both n (carried (forward k)) (carried (backward k)) ways sq,
      over_both n (parcels self (forward k)) (back self (forward k)) ways sq,
      over_both n (parcels self (backward k)) (back self (backward k)) ways sq,
    )

-- an arc within a block carries no message
inner_sense : (net : Network) (blocks j k : ℕ) (b : Bool) → j ≡ k → is_border net blocks (forward k) ≡ false → is_border net blocks (record { arc = j; back = b }) ≡ false
inner_sense net blocks j k true e inner = rw e (border_opposite net blocks (forward k) ∙ inner)
inner_sense net blocks j k false e inner = rw e inner

border_carries : (net : Network) (blocks k : ℕ) (y : Direction) (a : ℕ) → is_border net blocks (forward k) ≡ false → is_border net blocks y ≡ true → count_if (eqb y.arc k) a ≡ 0
border_carries net blocks k y a inner border =
    counted-zero (eqb y.arc k) a (λ h. absurd (let clash : true ≡ false = sym border ∙ inner_sense net blocks y.arc k y.back (eqb-true y.arc k h) inner in cc))

inner_carries : (net : Network) (blocks k i j : ℕ) (m : Message) → is_border net blocks (forward k) ≡ false → IsAddressed net blocks i j m → carries_on k m ≡ 0
inner_carries net blocks k i j (Parcel y a d) inner o = border_carries net blocks k y a inner o.border
inner_carries net blocks k i j (Accepted y a) inner o = border_carries net blocks k y 0 inner o.border
inner_carries net blocks k i j (Refused y a d told) inner o = border_carries net blocks k y a inner o.border

inner_arc : (old new : State) (ends : ℕ → State) → IsMet old new ends → (k : ℕ) → k < length old.net.arcs → is_border old.net old.blocks (forward k) ≡ false
    → residual_of new (forward k) + residual_of new (backward k) + over_messages (carries_on k) new.ways ≡ (arc_at old.net k).capacity
inner_arc old new ends met k lk inner =
    let net = old.net in
    let n = old.blocks in
    let b = near_block net n (forward k) in
    let lb = near_block_in old (forward k) met.sized lk in
    let same : b ≡ near_block net n (backward k) = not_border b (far_block net n (forward k)) inner in
    let f = ap (λ (l : Lane). l.residual) (met.joined.lanes (forward k) lk) in
    let g = ap (λ (l : Lane). l.residual) (met.joined.lanes (backward k) lk ∙ ap (λ q. lane_at (ends q).lanes (backward k)) (sym same)) in
    let none = over_none n (carries_on k) new.ways met.square (λ i j li lj.
    sum_none (carries_on k) (way_at new.ways i j) (λ q d l. inner_carries net n k i j (get_or (way_at new.ways i j) q d) inner (good_new old new ends met i j li lj q d l).0)) in
    omega (arith, f, g, none, (met.own b lb).log.inner k lk inner, met.arcs k lk)

border_arc : (old new : State) (ends : ℕ → State) → IsMet old new ends → (k : ℕ) → k < length old.net.arcs → is_border old.net old.blocks (forward k) ≡ true
    → residual_of new (forward k) + residual_of new (backward k) + over_messages (carries_on k) new.ways ≡ (arc_at old.net k).capacity
border_arc old new ends met k lk border =
    let net = old.net in
    let n = old.blocks in
    let x = forward k in
    let y = backward k in
    let b = near_block net n x in
    let c = far_block net n x in
    let lb = near_block_in old x met.sized lk in
    let lc = far_block_in old x met.sized lk in
    let o : IsBetween net n x b c = ends_of net n x lk border in
    let p : IsBetween net n y c b = turned net n x b c o in
    let f = ap (λ (l : Lane). l.residual) (met.joined.lanes x lk) in
    let g = ap (λ (l : Lane). l.residual) (met.joined.lanes y lk) in
    let px = linked old new ends met (parcels self x) b c lb lc (parcels_away net n self x b c o) in
    let rx = linked old new ends met (back self x) c b lc lb (back_away net n self x b c o) in
    let py = linked old new ends met (parcels self y) c b lc lb (parcels_away net n self y c b p) in
    let ry = linked old new ends met (back self y) b c lb lc (back_away net n self y c b p) in
    let mine = (met.own b lb).log.residual x lk c o in
    let yours = (met.own c lc).log.residual y lk b p in
    let came = (met.own c lc).log.received x b o self in
    let went = (met.own b lb).log.received y c p self in
    omega (arith, f, g, px, rx, py, ry, mine, yours, came, went, over_arc n k new.ways met.square, met.arcs k lk)

pub arcs_met : (old new : State) (ends : ℕ → State) → IsMet old new ends → (k : ℕ) → k < length old.net.arcs
    → residual_of new (forward k) + residual_of new (backward k) + over_messages (carries_on k) new.ways ≡ (arc_at old.net k).capacity
arcs_met old new ends met k lk = elim (cases_Bool (is_border old.net old.blocks (forward k))) [
  | inl border ↦ border_arc old new ends met k lk border
  | inr inner ↦ inner_arc old new ends met k lk inner
]

-- ---- nodes

block_below : (old new : State) (ends : ℕ → State) → IsMet old new ends → (v : ℕ) → v < nodes old.net → block_of old.net old.blocks v < old.blocks
block_below old new ends met v lv = block_in old.net old.blocks v lv met.sized.blocks

pub balance_met : (old new : State) (ends : ℕ → State) → IsMet old new ends → (v : ℕ) → v < nodes old.net
    → excess_of new v + slice_index old.net.sinks v + sum_leaving old.net v (first_residual old.net)
    ≡ slice_index old.net.sources v + room_of new v + sum_leaving old.net v (residual_of new)
balance_met old new ends met v lv =
    let net = old.net in
    let n = old.blocks in
    let b = block_of net n v in
    let lb = block_below old new ends met v lv in
    let same = leaving_same net v (residual_of new) (residual_of (ends b)) (λ x lx at_v.
    ap (λ (l : Lane). l.residual) (met.joined.lanes x lx ∙ ap (λ u. lane_at (ends (block_of net n u)).lanes x) at_v)) in
    omega (arith, (met.own b lb).fit.balance v lv, met.joined.excess v lv, met.joined.rooms v lv, same)

pub top_met : (old new : State) (ends : ℕ → State) → IsMet old new ends → (v : ℕ) → v < nodes old.net → label_of new v ≤ nodes old.net + 2
top_met old new ends met v lv =
    let lb = block_below old new ends met v lv in
    omega (arith, (met.own (block_of old.net old.blocks v) lb).fit.top v lv, met.joined.labels v lv)

pub sink_met : (old new : State) (ends : ℕ → State) → IsMet old new ends → (v : ℕ) → v < nodes old.net → 0 < room_of new v → label_of new v ≤ 1
sink_met old new ends met v lv some =
    let lb = block_below old new ends met v lv in
    let low = (met.own (block_of old.net old.blocks v) lb).fit.sink v lv (omega (arith, some, met.joined.rooms v lv)) in
    omega (arith, low, met.joined.labels v lv)

pub rooms_met : (old new : State) (ends : ℕ → State) → IsMet old new ends → (v : ℕ) → v < nodes old.net → room_of new v ≤ slice_index old.net.sinks v
rooms_met old new ends met v lv =
    let lb = block_below old new ends met v lv in
    omega (arith, (met.own (block_of old.net old.blocks v) lb).fit.rooms v lv, met.joined.rooms v lv)

-- ---- the sink

rooms_sum : (old : State) (rooms : List ℕ) → length rooms ≡ nodes old.net → sum rooms ≡ sum_below (nodes old.net) (slice_index rooms)
rooms_sum old rooms len = sum_is rooms ∙ ap (λ k. sum_below k (slice_index rooms)) len

pub got_met : (old new : State) (ends : ℕ → State) → IsMet old new ends → new.got + sum new.rooms ≡ sum old.net.sinks
got_met old new ends met =
    let net = old.net in
    let n = old.blocks in
    let m = nodes net in
    let D = λ (b v : ℕ). room_of old v - room_of (ends b) v in
    let each = sum_below-same n (λ b. (ends b).got - old.got) (λ b. sum_below m (D b)) (λ b lb.
    let own = met.own b lb in
    let all = sum_below-same m (λ v. D b v + room_of (ends b) v) (room_of old) (λ v lv. omega (arith, own.log.falls v)) in
    omega (
      arith,
      own.fit.got,
      met.got,
      all,
      sum_below-add m (D b) (room_of (ends b)),
      rooms_sum old (ends b).rooms own.fit.sized.rooms,
      rooms_sum old old.rooms met.sized.rooms,
    )) in
    let turn = sum_below-swap n m D in
    let node_block = λ (v : ℕ). block_of net n v in
    let picks = sum_below-same m (λ v. sum_below n (λ b. D b v) + room_of new v) (room_of old) (λ v lv.
    let lb = block_below old new ends met v lv in
    let only = sum_only n (node_block v) (λ b. D b v) lb (λ b lb' ne. omega (arith, (met.own b lb').log.others v (λ e. ne (sym e)))) in
    omega (arith, only, met.joined.rooms v lv, (met.own (node_block v) lb).log.falls v)) in
    omega (
      arith,
      met.joined.got,
      each,
      turn,
      picks,
      sum_below-add m (λ v. sum_below n (λ b. D b v)) (room_of new),
      rooms_sum old new.rooms met.joined.rooms_len,
      rooms_sum old old.rooms met.sized.rooms,
      met.got,
    )

-- ---- all together

carries_all : (net : Network) (blocks i j : ℕ) (m : Message) → IsAddressed net blocks i j m → sum_below (length net.arcs) (λ k. carries_on k m) ≡ carries m
carries_all net blocks i j (Parcel y a d) o = sum_below-pick (length net.arcs) y.arc (λ k. a) o.direction
carries_all net blocks i j (Accepted y a) o = sum_below-pick (length net.arcs) y.arc (λ k. 0) o.direction
carries_all net blocks i j (Refused y a d told) o = sum_below-pick (length net.arcs) y.arc (λ k. a) o.direction

pub total_met : (old new : State) (ends : ℕ → State) → IsMet old new ends → sum new.excess + over_messages carries new.ways + new.got ≡ sum old.net.sources
total_met old new ends met =
    let net = old.net in
    let n = old.blocks in
    let m = nodes net in
    let arcs = length net.arcs in
    let first = λ (v : ℕ). sum_leaving net v (first_residual net) in
    let last = λ (v : ℕ). sum_leaving net v (residual_of new) in
    let nodes_all = sum_below-same m (λ v. excess_of new v + slice_index net.sinks v + first v) (λ v. slice_index net.sources v + room_of new v + last v) (balance_met old new ends met) in
    let left1 = sum_below-add m (λ v. excess_of new v + slice_index net.sinks v) first in
    let left2 = sum_below-add m (excess_of new) (slice_index net.sinks) in
    let right1 = sum_below-add m (λ v. slice_index net.sources v + room_of new v) last in
    let right2 = sum_below-add m (slice_index net.sources) (room_of new) in
    let first_all = all_leave net (first_residual net) met.sized.net in
    let last_all = all_leave net (residual_of new) met.sized.net in
    let carried_all : sum_below arcs (λ k. over_messages (carries_on k) new.ways) ≡ over_messages carries new.ways =
    over_sum n arcs carries_on new.ways met.square
    ∙ over_same n (λ q. sum_below arcs (λ k. carries_on k q)) carries new.ways met.square (λ i j li lj.
    sum_same (λ q. sum_below arcs (λ k. carries_on k q)) carries (way_at new.ways i j) (λ q d l.
    carries_all net n i j (get_or (way_at new.ways i j) q d) (good_new old new ends met i j li lj q d l).0)) in
    let both = λ (k : ℕ). residual_of new (forward k) + residual_of new (backward k) in
    let arcs_all = sum_below-same arcs (λ k. both k + over_messages (carries_on k) new.ways) (λ k. first_residual net (forward k) + first_residual net (backward k)) (λ k lk.
    omega (arith, arcs_met old new ends met k lk)) in
    let arcs_split = sum_below-add arcs both (λ k. over_messages (carries_on k) new.ways) in
    omega (
      arith,
      nodes_all,
      left1,
      left2,
      right1,
      right2,
      first_all,
      last_all,
      carried_all,
      arcs_all,
      arcs_split,
      got_met old new ends met,
      rooms_sum old new.rooms met.joined.rooms_len,
      rooms_sum old new.excess met.joined.excess_len,
      rooms_sum old net.sinks met.sized.net.same,
      sum_is net.sources,
    )
