-- Work of a net that is finished is work of the net in which nodes can send the sink more, once the
-- rooms have grown, the labels of the nodes that reach the sink are 0, and those of the others 1.
use Rattle.std.proofs.Common.{◌≡◌, ℕ, zero, suc, ◌+◌, ◌<◌, ◌≤◌, ◌⊎◌, inl, inr, List, [], ◌∷◌, length, slice_index, refl, sym, ◌∙◌, ap, arith}
use Rattle.flow_network.specs.Limits.{capacity_limit}
use Rattle.flow_network.proofs.Bounds.{number-le-sum}
use Rattle.flow_network.specs.Cut.{Network, nodes, network_of, with_larger_sinks, AreExtras, IsNet}
use Rattle.flow_network.specs.Preflow.{Flow, flow_by, sink_flows, ReachesIn}
use Rattle.flow_network.specs.Progress.{top, IsLabelledPreflow}
use Rattle.flow_network.proofs.Smallest.{reaches_before}
use Rattle.flow_network.proofs.Widening.{added, added_at, length-added, given_widened, widened_rooms}
use Rattle.sink_distances.specs.declared.rows.Rows.{Rows}
use Rattle.sink_distances.specs.Rows.{carried_flow, near_of, places_of, start_at, IsRows}
use Rattle.plain_cut.specs.declared.work.Work.{Work}
use Rattle.plain_cut.specs.State.{work_flow, LeadsByZeros, CountAsSink, IsWork, HasNoActiveNode}
use Rattle.sink_distances.specs.Distances.{AreDistancesButZeros}
use Rattle.sink_distances.proofs.Laws.{residual_nodes}
use Rattle.plain_cut.proofs.Zeros.{below_reaches, reaches_below}

same_places : (net : Network) (start : ℕ → ℕ) (sinks : List ℕ) → places_of start (network_of net.sources sinks net.arcs) ≡ places_of start net
unfolding places_of near_of
same_places net start sinks = refl

-- the rows of a net do not depend on what its nodes can send the sink
pub rows_with : (net : Network) (sinks : List ℕ) (rows : Rows) → IsRows net rows → IsRows (network_of net.sources sinks net.arcs) rows
rows_with net sinks rows r = record {
  starts_len = r.starts_len;
  ends_len = r.ends_len;
  few = r.few;
  firsts = r.firsts ∙ sym (same_places net (start_at rows) sinks);
  firsts_len = r.firsts_len;
  room = r.room;
  within = r.within;
  arcs = λ k l. let a = r.arcs k l in record {
    first = a.first;
    second = a.second;
    turn = a.turn;
    head = a.head;
    tail = a.tail;
    leaves = a.leaves;
    enters = a.enters;
    capacity = a.capacity;
  };
  each = r.each;
  once = r.once;
  apart = r.apart;
}

wider_sound : (net : Network) (more rooms kept labels : List ℕ) (arcs other : List ℕ) → IsNet net → AreExtras net more
    → IsLabelledPreflow net (flow_by arcs (sink_flows net rooms)) kept other → length labels ≡ nodes net
    → ((v : ℕ) → v < nodes net → slice_index labels v ≤ 1) → IsLabelledPreflow (with_larger_sinks net more) (flow_by arcs (sink_flows net rooms)) kept labels
wider_sound net more rooms kept labels arcs other h e s len flat = record {
  preflow = record {
    arcs_len = s.preflow.arcs_len;
    sinks_len = s.preflow.sinks_len;
    arcs = s.preflow.arcs;
    sinks = λ v l. omega (arith, s.preflow.sinks v l, added_at net.sinks more v (omega (arith, e.len, h.same)) (omega (arith, h.same, l)));
    covered = s.preflow.covered;
  };
  kept_len = s.kept_len;
  told = s.told;
  labelling = record {
    len = len;
    sinks = λ v l room. flat v l;
    arcs = λ a b step. omega (arith, flat a (residual_nodes net (flow_by arcs (sink_flows net rooms)) a b h step).0);
  };
  below_top = λ v l. omega (arith, flat v l);
}

-- a label is 0 where it was below the top, and else 1
abbrev pub TellSides : Network → List ℕ → List ℕ → Type 0
TellSides net old new =
    (v : ℕ) → v < nodes net → ((slice_index old v < top net) × (slice_index new v ≡ 0)) ⊎ ((top net ≤ slice_index old v) × (slice_index new v ≡ 1))

side_low : (net : Network) (old new : List ℕ) → TellSides net old new → (v : ℕ) → v < nodes net → slice_index new v ≤ 1
side_low net old new tell v l = elim (tell v l) [ inl below ↦ omega (arith, below.1) | inr at ↦ omega (arith, at.1) ]

side_below : (net : Network) (old new : List ℕ) → TellSides net old new → (v : ℕ) → v < nodes net → slice_index new v ≡ 0 → slice_index old v < top net
side_below net old new tell v l none = elim (tell v l) [ inl below ↦ below.0 | inr at ↦ absurd (omega (arith, at.1, none)) ]

side_zero : (net : Network) (old new : List ℕ) → TellSides net old new → (v : ℕ) → v < nodes net → slice_index old v < top net → slice_index new v ≡ 0
side_zero net old new tell v l low = elim (tell v l) [ inl below ↦ below.1 | inr at ↦ absurd (omega (arith, at.0, low)) ]

-- each node of a path to the sink reaches it, so its label is 0 now
leads_wider : (net : Network) (more : List ℕ) (flow : Flow) (old new : List ℕ) → IsNet net → AreExtras net more → AreDistancesButZeros net flow old
    → TellSides net old new → (d v : ℕ) → ReachesIn net flow d v → LeadsByZeros (with_larger_sinks net more) flow new d v
leads_wider net more flow old new h e exact tell zero v path = path
leads_wider net more flow old new h e exact tell (suc zero) v (l, room) =
    (l, omega (arith, room, added_at net.sinks more v (omega (arith, e.len, h.same)) (omega (arith, h.same, l))))
leads_wider net more flow old new h e exact tell (suc (suc d)) v (w, step, path) =
    let inside = (residual_nodes net flow v w h step).1 in
    let none = side_zero net old new tell w inside (reaches_below net flow old exact w inside (suc d, path)) in
    (w, step, none, leads_wider net more flow old new h e exact tell (suc d) w path)

wider_zeros : (net : Network) (more : List ℕ) (flow : Flow) (kept old new : List ℕ) → IsNet net → AreExtras net more → CountAsSink net flow kept old
    → AreDistancesButZeros net flow old → ((v : ℕ) → v < nodes net → slice_index old v < top net → slice_index kept v ≡ 0) → TellSides net old new
    → CountAsSink (with_larger_sinks net more) flow kept new
wider_zeros net more flow kept old new h e z exact done tell = record {
  spent = λ v l none. done v l (side_below net old new tell v l none);
  unreached = λ v w step none.
      let ends = residual_nodes net flow v w h step in
      let there = below_reaches net flow kept old z exact w ends.1 (side_below net old new tell w ends.1 none) in
      side_zero net old new tell v ends.0 (reaches_below net flow old exact v ends.0 (reaches_before net flow v w step there));
  leads = λ v l none.
      let path = below_reaches net flow kept old z exact v l (side_below net old new tell v l none) in
      (path.0, leads_wider net more flow old new h e exact tell path.0 v path.1);
}

pub wider_work : (net : Network) (more : List ℕ) (old new : Work) → IsNet net → AreExtras net more → IsWork net old
    → HasNoActiveNode net old → AreDistancesButZeros net (work_flow net old) old.labels.items
    → new.rows ≡ old.rows → new.rooms.items ≡ added old.rooms.items more → new.excess.items ≡ old.excess.items
    → length new.labels.items ≡ nodes net → TellSides net old.labels.items new.labels.items
    → new.queue.items ≡ old.queue.items → IsWork (with_larger_sinks net more) new
wider_work net more old new h e s done exact ea es ee len tell eq = record {
  sound = rw (ea, es, ee, given_widened net old.rooms.items more h s.rooms e.len)
      (wider_sound net more old.rooms.items old.excess.items new.labels.items (carried_flow old.rows) old.labels.items h e s.sound len (side_low net old.labels.items new.labels.items tell));
  zeros = rw (ea, es, ee, given_widened net old.rooms.items more h s.rooms e.len)
      (wider_zeros net more (work_flow net old) old.excess.items old.labels.items new.labels.items h e s.zeros exact done tell);
  shown = rw ea (rows_with net _ old.rows s.shown);
  rooms = rw es (widened_rooms net old.rooms.items more h s.rooms e.len);
  queue = rw eq s.queue;
}

-- with nothing more it is the same net
added_none : (xs more : List ℕ) → length more ≡ length xs → ((v : ℕ) → v < length more → slice_index more v ≡ 0) → added xs more ≡ xs
added_none [] more e none = refl
added_none (x ∷ xs) [] e none = absurd (omega arith)
added_none (x ∷ xs) (m ∷ more) e none =
    let here : x + m ≡ x = omega (arith, none 0 (omega arith)) in
    rw here (ap (λ (rest : List ℕ). x ∷ rest) (added_none xs more (omega arith) (λ v l. none (suc v) (omega (arith, l)))))

pub widened_none : (net : Network) (more : List ℕ) → IsNet net → AreExtras net more
    → ((v : ℕ) → v < length more → slice_index more v ≡ 0) → with_larger_sinks net more ≡ net
widened_none net more h e none =
    ap (λ (sinks : List ℕ). network_of net.sources sinks net.arcs) (added_none net.sinks more (omega (arith, e.len, h.same)) none)

-- a room with so much more is a `u64`
pub extras-at : (net : Network) (more : List ℕ) (v : ℕ) → IsNet net → AreExtras net more → v < nodes net
    → slice_index net.sinks v + slice_index more v ≤ capacity_limit
extras-at net more v h e l =
    omega (
      arith,
      e.fits.total,
      number-le-sum (added net.sinks more) v (omega (arith, length-added net.sinks more (omega (arith, e.len, h.same)), h.same, l)),
      added_at net.sinks more v (omega (arith, e.len, h.same)) (omega (arith, h.same, l)),
    )
