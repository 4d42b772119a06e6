-- A search over the blocks is one over the net of what the directions of a state can still carry.
use Rattle.std.proofs.Common.{◌≡◌, ℕ, ◌+◌, ◌<◌, ◌≤◌, Bool, true, false, List, length, map, replicate, slice_index, sum_by, inl, inr, sym, ◌∙◌, ap, subst, arith}
use Rattle.std.specs.List.{range_with_len}
use Rattle.std.proofs.lemmas.List.{length-replicate}
use Rattle.std.proofs.lemmas.List.Elements.{All-from_get_or}
use Rattle.std.proofs.lemmas.List.Folds.{sum_by-replicate}
use Rattle.std.proofs.lemmas.List.FromFn.{get_or-map-range_with_len, length-map-range_with_len}
use Rattle.sums.specs.Sums.{sum_below}
use Rattle.sums.proofs.SumLemmas.{sum_below-le, sum_by-sum_below}
use Rattle.flow_network.specs.declared.arc.Arc.{Arc}
use Rattle.flow_network.specs.Cut.{Network, network_of, nodes, IsArc, IsNet}
use Rattle.flow_network.specs.Preflow.{Flow, flow_by, sink_flows, arc_at, IsResidual}
use Rattle.flow_network.proofs.Bounds.{sum-le-sum}
use Rattle.flow_network.proofs.Duality.{arc_is}
use Rattle.flow_network.proofs.Given.{given_none, sinks_rooms}
use Rattle.block_events.specs.Directions.{forward, backward, near, far}
use Rattle.block_events.specs.States.{State, residual_of, room_of}
use Rattle.block_events.specs.Soundness.{IsSound}
use Rattle.block_events.proofs.Showing.{IsShown}
use Rattle.block_events.specs.Reach.{AreExact}
use Rattle.sink_distances.specs.Search.{Search, search_label, node_at, AreStarts, Grows}
use Rattle.sink_distances.proofs.Searching.{IsSearched, searched_begins, searched_more, searched_exact}
use Rattle.block_net.specs.Whole.{state_shown}
use Rattle.block_split.specs.declared.parts.Parts.{Parts}
use Rattle.block_split.specs.Split.{whole_of}
use Rattle.block_state.specs.Parts.{IsIn}
use Rattle.global_relabel.specs.Search.{HasResidualLane}
use Rattle.global_relabel.proofs.Bridge.{exact_of}
use Rattle.global_relabel.proofs.Seeing.{grows_because}

-- an arc that can carry what its two directions can still carry together
abbrev residual_arc : State → ℕ → Arc
residual_arc s k = record (arc_at s.net k) { capacity = residual_of s (forward k) + residual_of s (backward k) }

-- these arcs, and of each node what it can still give the sink
abbrev residual_net : State → Network
residual_net s =
    network_of (replicate (nodes s.net) 0) (map (room_of s) (range_with_len 0 (nodes s.net)))
    (map (residual_arc s) (range_with_len 0 (length s.net.arcs)))

-- what can be taken back of each arc, where no node gives the sink anything
abbrev taken_back : State → List ℕ
taken_back s = map (λ k. residual_of s (backward k)) (range_with_len 0 (length s.net.arcs))

abbrev residual_flow : State → Flow
residual_flow s = flow_by (taken_back s) (sink_flows (residual_net s) (residual_net s).sinks)

abbrev no_arc : Arc
no_arc = record { from = 0; to = 0; capacity = 0 }

-- the arc at a place
arc_shown : (s : State) (k : ℕ) → k < length s.net.arcs → arc_at (residual_net s) k ≡ residual_arc s k
arc_shown s k l = get_or-map-range_with_len (residual_arc s) 0 (length s.net.arcs) k k no_arc l (omega arith)

-- the room of a node
sink_shown : (s : State) (v : ℕ) → v < nodes s.net → slice_index (residual_net s).sinks v ≡ room_of s v
sink_shown s v l = get_or-map-range_with_len (room_of s) 0 (nodes s.net) v v 0 l (omega arith)

count_shown : (s : State) → nodes (residual_net s) ≡ nodes s.net
count_shown s = length-replicate (nodes s.net) 0

arcs_len : (s : State) → length (residual_net s).arcs ≡ length s.net.arcs
arcs_len s = length-map-range_with_len (residual_arc s) 0 (length s.net.arcs)

sinks_len : (s : State) → length (residual_net s).sinks ≡ nodes s.net
sinks_len s = length-map-range_with_len (room_of s) 0 (nodes s.net)

arcs_total : (s : State) → IsSound s → sum_by (λ arc. arc.capacity) (residual_net s).arcs ≤ sum_by (λ arc. arc.capacity) s.net.arcs
arcs_total s sound =
    let m = length s.net.arcs in
    let f : Arc → ℕ = λ (arc : Arc). arc.capacity in
    let each = sum_below-le m (λ k. (arc_at (residual_net s) k).capacity) (λ k. (arc_at s.net k).capacity)
    (λ k l. omega (arith, ap f (arc_shown s k l), sound.flow.arcs k l)) in
    omega (
      arith,
      each,
      sum_by-sum_below f (residual_net s).arcs no_arc,
      sum_by-sum_below f s.net.arcs no_arc,
      ap (λ n. sum_below n (λ k. (arc_at (residual_net s) k).capacity)) (arcs_len s),
    )

residual_is_net : (s : State) → IsSound s → IsNet (residual_net s)
residual_is_net s sound =
    let net = sound.sized.net in
    let count = count_shown s in
    let rooms = sum-le-sum (residual_net s).sinks s.net.sinks (sinks_len s ∙ sym net.same)
    (λ v l. let lv : v < nodes s.net = omega (arith, l, net.same) in omega (arith, sink_shown s v lv, sound.flow.rooms v lv)) in
    record {
      same = sinks_len s ∙ sym count;
      count = omega (arith, count, net.count);
      arcs = All-from_get_or (IsArc (nodes (residual_net s))) (residual_net s).arcs no_arc (λ k l.
          let lk : k < length s.net.arcs = omega (arith, l, arcs_len s) in
          let ends = arc_is s.net net k lk in
          subst (IsArc (nodes (residual_net s))) (sym (arc_shown s k lk)) (record { from = omega (arith, ends.from, count); to = omega (arith, ends.to, count) }));
      total = omega (arith, net.total, rooms, arcs_total s sound, sum_by-replicate (λ (x : ℕ). x) (nodes s.net) 0);
    }

-- where each arc carries what can be taken back, and no node gives the sink anything
residual_shown : (s : State) → IsSound s → IsShown s (residual_net s) (residual_flow s)
residual_shown s sound = record {
  count = count_shown s;
  arcs = arcs_len s;
  from = λ k l. ap (λ (arc : Arc). arc.from) (arc_shown s k l);
  to = λ k l. ap (λ (arc : Arc). arc.to) (arc_shown s k l);
  carried = λ k l. get_or-map-range_with_len (λ j. residual_of s (backward j)) 0 (length s.net.arcs) k k 0 l (omega arith);
  full = λ k l. sym (ap (λ (arc : Arc). arc.capacity) (arc_shown s k l));
  rooms = λ v l. omega (arith, sink_shown s v l, given_none (residual_net s) v (residual_is_net s sound));
}

-- ---- residual directions

residual_at : (s : State) (net : Network) (flow : Flow) → IsShown s net flow → (k : ℕ) (b : Bool) → k < length s.net.arcs → 0 < residual_of s (record { arc = k; back = b })
    → IsResidual net flow (near s.net (record { arc = k; back = b })) (far s.net (record { arc = k; back = b }))
residual_at s net flow shown k true l some =
    (k, omega (arith, l, shown.arcs), inr (shown.to k l, shown.from k l, omega (arith, some, shown.carried k l)))
residual_at s net flow shown k false l some =
    (k, omega (arith, l, shown.arcs), inl (shown.from k l, shown.to k l, omega (arith, some, shown.carried k l, shown.full k l)))

to_residual : (s : State) (net : Network) (flow : Flow) → IsShown s net flow → (w v : ℕ) → HasResidualLane s.net s.lanes w v → IsResidual net flow v w
to_residual s net flow shown w v (x, l, at_v, at_w, some) =
    subst (λ n. IsResidual net flow n w) at_v (subst (λ n. IsResidual net flow (near s.net x) n) at_w (residual_at s net flow shown x.arc x.back l some))

from_residual : (s : State) (net : Network) (flow : Flow) → IsShown s net flow → (w v : ℕ) → IsResidual net flow v w → HasResidualLane s.net s.lanes w v
from_residual s net flow shown w v (k, in_net, inl forth) =
    let l : k < length s.net.arcs = omega (arith, in_net, shown.arcs) in
    (forward k, l, sym (shown.from k l) ∙ forth.0, sym (shown.to k l) ∙ forth.1, omega (arith, forth.2, shown.carried k l, shown.full k l))
from_residual s net flow shown w v (k, in_net, inr back) =
    let l : k < length s.net.arcs = omega (arith, in_net, shown.arcs) in
    (backward k, l, sym (shown.to k l) ∙ back.0, sym (shown.from k l) ∙ back.1, omega (arith, back.2, shown.carried k l))

-- the directions that the blocks of a state show are its own
abbrev LeadsIn : Network → Parts → ℕ → ℕ → Type 0
LeadsIn net p w v = HasResidualLane net (state_shown (whole_of net p)).lanes w v

leads_in : (s : State) (net : Network) (p : Parts) → net ≡ s.net → IsIn s p → (w v : ℕ) → LeadsIn net p w v → HasResidualLane s.net s.lanes w v
leads_in s net p same is w v leads =
    subst (λ lanes. HasResidualLane s.net lanes w v) (ap (λ (q : State). q.lanes) is.shown) (subst (λ n. LeadsIn n p w v) same leads)

leads_from : (s : State) (net : Network) (p : Parts) → net ≡ s.net → IsIn s p → (w v : ℕ) → HasResidualLane s.net s.lanes w v → LeadsIn net p w v
leads_from s net p same is w v leads =
    subst (λ n. LeadsIn n p w v) (sym same) (subst (λ lanes. HasResidualLane s.net lanes w v) (sym (ap (λ (q : State). q.lanes) is.shown)) leads)

-- ---- the search

-- the nodes at places before next of the order are expanded
abbrev pub IsExpanded : State → ℕ → Search → Type 0
IsExpanded s next found = IsSearched (residual_net s) (residual_flow s) next found

pub expanded_begins : (s : State) (found : Search) → IsSound s → AreStarts s.net s.rooms (nodes s.net) found → IsExpanded s 0 found
expanded_begins s found sound starts =
    let net = residual_net s in
    let count = count_shown s in
    let is = residual_is_net s sound in
    searched_begins net (taken_back s) net.sinks found is (sinks_rooms net is) (record {
      len = omega (arith, starts.len, count);
      order = starts.order;
      below = starts.below;
      leads = λ u l.
          let lu : u < nodes s.net = omega (arith, l, count) in
          elim (starts.leads u lu) [
            | inl none ↦ inl (omega (arith, none, count))
            | inr one ↦ inr (one.0, omega (arith, one.1, sink_shown s u lu))
          ];
      sinks = λ u l l' some.
          let lu : u < nodes s.net = omega (arith, l, count) in
          starts.sinks u lu lu (omega (arith, some, sink_shown s u lu));
    })

-- the node at the next place is expanded
pub expanded_more : (s : State) (net : Network) (p : Parts) (next : ℕ) (old new : Search) → IsSound s → net ≡ s.net → IsIn s p → IsExpanded s next old → next < old.count
    → Grows (search_label old (node_at old next) + 1) (LeadsIn net p (node_at old next)) old new
    → ((v : ℕ) → LeadsIn net p (node_at old next) v → search_label new v ≤ search_label old (node_at old next) + 1)
    → IsExpanded s (next + 1) new
expanded_more s net p next old new sound same is before l grows marked =
    let w = node_at old next in
    let flow = residual_flow s in
    let shown_so = residual_shown s sound in
    searched_more (residual_net s) flow next old new before l
    (grows_because (search_label old w + 1) (LeadsIn net p w) (λ v. IsResidual (residual_net s) flow v w) old new
    (λ v leads. to_residual s (residual_net s) flow shown_so w v (leads_in s net p same is w v leads)) grows)
    (λ v step. marked v (leads_from s net p same is w v (from_residual s (residual_net s) flow shown_so w v step)))
    (residual_is_net s sound)

-- where each node of the order is expanded, the labels are exact
pub expanded_all : (s : State) (next : ℕ) (found : Search) → IsSound s → IsExpanded s next found → found.count ≤ next → AreExact s found.labels
expanded_all s next found sound expanded done =
    exact_of s (residual_net s) (residual_flow s) (residual_shown s sound) found.labels
    (searched_exact (residual_net s) (residual_flow s) next found (residual_is_net s sound) expanded done)
