-- A finished state has the smallest least cut.
use Rattle.std.proofs.Common.{◌≡◌, ℕ, ◌+◌, ◌-◌, ◌<◌, ◌≤◌, Bool, true, eqb, length, slice_index, refl, sym, ◌∙◌, ap, inl, inr, arith}
use Rattle.std.proofs.lemmas.Bool.{cases_lt}
use Rattle.sums.specs.Sums.{count_if}
use Rattle.flow_network.specs.Cut.{nodes}
use Rattle.flow_network.specs.Preflow.{arc_at}
use Rattle.block_events.specs.Directions.{forward, backward, sum_leaving}
use Rattle.block_events.specs.States.{State, Lane, excess_of, room_of, residual_of}
use Rattle.block_events.specs.Soundness.{IsSound, carries_on, first_residual}
use Rattle.block_events.proofs.Local.{counted_none}
use Rattle.std.proofs.lemmas.List.{length-map}
use Rattle.std.proofs.lemmas.List.FromFn.{get_or-map-range_with_len, length-map-range_with_len}
use Rattle.sums.specs.Sums.{sum_below}
use Rattle.sums.proofs.SumLemmas.{sum_below-same, sum_below-add}
use Rattle.flow_network.specs.Cut.{capacity_of, IsSmallestLeastCut}
use Rattle.flow_network.specs.Preflow.{IsPreflow, IsReach, excess, inflow, outflow, sink_gets}
use Rattle.flow_network.proofs.Bounds.{sum_is}
use Rattle.flow_network.proofs.Duality.{sink_gets-le-capacity}
use Rattle.flow_network.proofs.Smallest.{smallest_least, capacity_of_reach}
use Rattle.block_events.specs.Reach.{IsReachOf}
use Rattle.block_events.specs.Flows.{shown_flow}
use Rattle.block_events.specs.Events.{IsQuiet}
use Rattle.block_events.specs.Soundness.{IsFinished}
use Rattle.block_events.proofs.Local.{counted_add}
use Rattle.block_events.proofs.Raising.{quiet_none}
use Rattle.block_events.proofs.Opening.{map_at}
use Rattle.block_events.proofs.Showing.{IsShown, leads_reaches, reaches_leads}
use Rattle.block_events.specs.States.{no_lane}

pub flow_arc : (s : State) (k : ℕ) → IsSound s → k < length s.net.arcs → slice_index (shown_flow s).arcs k ≡ residual_of s (backward k)
flow_arc s k sound l = map_at (λ (lane : Lane). lane.residual) s.lanes.back k 0 no_lane (omega (arith, l, sound.sized.back))

pub flow_sink : (s : State) (v : ℕ) → v < nodes s.net → slice_index (shown_flow s).sinks v ≡ slice_index s.net.sinks v - room_of s v
flow_sink s v l = get_or-map-range_with_len (λ (u : ℕ). slice_index s.net.sinks u - room_of s u) 0 (nodes s.net) v v 0 l (omega arith)

pub arc_full : (s : State) (k : ℕ) → IsSound s → IsQuiet s → k < length s.net.arcs
    → residual_of s (forward k) + residual_of s (backward k) ≡ (arc_at s.net k).capacity
arc_full s k sound quiet l = omega (arith, sound.flow.arcs k l, quiet_none s (carries_on k) sound.sized.ways quiet)

-- ---- the excess of a node

pub node_flows : (s : State) (v : ℕ) → IsSound s → IsQuiet s
    → sum_leaving s.net v (residual_of s) + outflow s.net (shown_flow s) v ≡ sum_leaving s.net v (first_residual s.net) + inflow s.net (shown_flow s) v
node_flows s v sound quiet =
    let m = length s.net.arcs in
    let from = λ (k : ℕ). eqb (arc_at s.net k).from v in
    let to = λ (k : ℕ). eqb (arc_at s.net k).to v in
    let flow = λ (k : ℕ). slice_index (shown_flow s).arcs k in
    let old = λ (k : ℕ). count_if (from k) (residual_of s (forward k)) + count_if (to k) (residual_of s (backward k)) in
    let first = λ (k : ℕ). count_if (from k) (arc_at s.net k).capacity + count_if (to k) 0 in
    let each = sum_below-same m (λ k. old k + count_if (from k) (flow k)) (λ k. first k + count_if (to k) (flow k)) (λ k l.
    let f = flow_arc s k sound l in
    omega (
      arith,
      ap (count_if (from k)) f,
      ap (count_if (to k)) f,
      ap (count_if (from k)) (arc_full s k sound quiet l),
      counted_add (from k) (residual_of s (forward k)) (residual_of s (backward k)),
      counted_none (to k),
    )) in
    omega (arith, each, sum_below-add m old (λ k. count_if (from k) (flow k)), sum_below-add m first (λ k. count_if (to k) (flow k)))

pub quiet_preflow : (s : State) → IsSound s → IsQuiet s → IsPreflow s.net (shown_flow s)
quiet_preflow s sound quiet = record {
  arcs_len = length-map s.lanes.back _ ∙ sound.sized.back;
  sinks_len = length-map-range_with_len (λ (u : ℕ). slice_index s.net.sinks u - room_of s u) 0 (nodes s.net);
  arcs = λ k l. omega (arith, flow_arc s k sound l, arc_full s k sound quiet l);
  sinks = λ v l. omega (arith, flow_sink s v l);
  covered = λ v l. omega (arith, flow_sink s v l, sound.flow.rooms v l, sound.flow.balance v l, node_flows s v sound quiet);
}

pub quiet_excess : (s : State) (v : ℕ) → IsSound s → IsQuiet s → v < nodes s.net → excess s.net (shown_flow s) v ≡ excess_of s v
quiet_excess s v sound quiet l = omega (arith, flow_sink s v l, sound.flow.rooms v l, sound.flow.balance v l, node_flows s v sound quiet)

pub quiet_gets : (s : State) → IsSound s → IsQuiet s → sink_gets s.net (shown_flow s) ≡ s.got
quiet_gets s sound quiet =
    let n = nodes s.net in
    let all = sum_below-same n (λ v. slice_index (shown_flow s).sinks v + room_of s v) (λ v. slice_index s.net.sinks v)
    (λ v l. omega (arith, flow_sink s v l, sound.flow.rooms v l)) in
    let rooms = sum_is s.rooms ∙ ap (λ k. sum_below k (room_of s)) sound.sized.rooms in
    let sinks = sum_is s.net.sinks ∙ ap (λ k. sum_below k (slice_index s.net.sinks)) sound.sized.net.same in
    omega (arith, all, sum_below-add n (slice_index (shown_flow s).sinks) (room_of s), rooms, sinks, sound.flow.got)

-- ---- paths

pub quiet_shown : (s : State) → IsSound s → IsQuiet s → IsShown s s.net (shown_flow s)
quiet_shown s sound quiet = record {
  count = refl;
  arcs = refl;
  from = λ k l. refl;
  to = λ k l. refl;
  carried = λ k l. flow_arc s k sound l;
  full = λ k l. arc_full s k sound quiet l;
  rooms = λ v l. omega (arith, flow_sink s v l, sound.flow.rooms v l);
}

pub quiet_reach : (s : State) (side : ℕ → Bool) → IsSound s → IsQuiet s → IsReachOf s side → IsReach s.net (shown_flow s) side
quiet_reach s side sound quiet reach = record {
  sound = λ v l inside. let path = reach.sound v l inside in (path.0, leads_reaches s s.net (shown_flow s) (quiet_shown s sound quiet) path.0 v path.1);
  complete = λ v l path. reach.complete v l (path.0, reaches_leads s s.net (shown_flow s) (quiet_shown s sound quiet) path.0 v path.1);
}

-- ---- the law

no_excess : (s : State) (side : ℕ → Bool) → IsSound s → IsFinished s → IsReachOf s side
    → (v : ℕ) → v < nodes s.net → side v ≡ true → excess s.net (shown_flow s) v ≡ 0
no_excess s side sound done reach v l inside = elim (cases_lt 0 (excess_of s v)) [
  | inl some ↦ absurd (done.ended v l some (reach.sound v l inside))
  | inr none ↦ omega (arith, none, quiet_excess s v sound done.quiet l)
]

-- the nodes that reach the sink are the smallest least cut, and the sink got its capacity
pub finished_smallest : (s : State) (side : ℕ → Bool) → IsSound s → IsFinished s → IsReachOf s side → IsSmallestLeastCut s.net side
finished_smallest s side sound done reach =
    smallest_least s.net (shown_flow s) side sound.sized.net (quiet_preflow s sound done.quiet) (quiet_reach s side sound done.quiet reach) (no_excess s side sound done reach)

pub finished_full : (s : State) (side : ℕ → Bool) → IsSound s → IsFinished s → IsReachOf s side → s.got ≡ capacity_of s.net side
finished_full s side sound done reach =
    sym (quiet_gets s sound done.quiet)
    ∙ capacity_of_reach s.net (shown_flow s) side sound.sized.net (quiet_preflow s sound done.quiet) (quiet_reach s side sound done.quiet reach) (no_excess s side sound done reach)

-- what the sink got is at most the capacity of each cut
pub got-le-capacity : (s : State) (side : ℕ → Bool) → IsSound s → IsQuiet s → s.got ≤ capacity_of s.net side
got-le-capacity s side sound quiet =
    omega (arith, quiet_gets s sound quiet, sink_gets-le-capacity s.net (shown_flow s) side sound.sized.net (quiet_preflow s sound quiet))
