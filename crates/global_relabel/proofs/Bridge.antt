-- Labels that are exact in a state are distances in each net that shows it.
use Rattle.std.proofs.Common.{◌≡◌, ◌↔◌, ℕ, ◌-◌, ◌<◌, Bool, true, false, List, Result, Ok, Err, IfOk, length, map, slice_index, slice_index_or, nat_lt, inl, inr, sym, ◌∙◌, ap, arith}
use Rattle.std.proofs.lemmas.Bool.Decides.{nat_tests}
use Rattle.std.proofs.lemmas.List.{ext_get_or, length-map}
use Rattle.std.proofs.lemmas.List.FromFn.{length-map-range_with_len}
use Rattle.flow_network.specs.Cut.{Network, nodes, set_of}
use Rattle.flow_network.specs.Preflow.{Flow, flow_by, sink_flows, AreRooms}
use Rattle.flow_network.specs.Progress.{top}
use Rattle.flow_network.proofs.Given.{length-given, given_at}
use Rattle.sink_distances.specs.Distances.{IsExactLabel, AreDistances}
use Rattle.block_events.specs.Directions.{backward}
use Rattle.block_events.specs.States.{State, residual_of, room_of}
use Rattle.block_events.specs.Reach.{IsExact, AreExact, IsReachOf}
use Rattle.block_events.specs.Flows.{shown_flow}
use Rattle.block_events.specs.Events.{IsQuiet}
use Rattle.block_events.specs.Soundness.{IsSound}
use Rattle.block_events.proofs.Showing.{IsShown, leads_reaches, reaches_leads}
use Rattle.block_events.proofs.Finishing.{flow_arc, flow_sink, quiet_shown}
use Rattle.block_events.proofs.Opening.{map_at}

module _ (s : State) (net : Network) (flow : Flow) (shown : IsShown s net flow) where
  to_distance : (v label : ℕ) → IsExact s v label → IsExactLabel net flow v label
  to_distance v label (inl near) =
      inl (omega (arith, near.0, shown.count), record { leads = leads_reaches s net flow shown label v near.1; least = λ d path. near.2 d (reaches_leads s net flow shown d v path) })
  to_distance v label (inr far) = inr (omega (arith, far.0, shown.count), λ path. far.1 (path.0, reaches_leads s net flow shown path.0 v path.1))

  from_distance : (v label : ℕ) → IsExactLabel net flow v label → IsExact s v label
  from_distance v label (inl near) =
      inl (omega (arith, near.0, shown.count), reaches_leads s net flow shown label v near.1.leads, λ d path. near.1.least d (leads_reaches s net flow shown d v path))
  from_distance v label (inr far) = inr (omega (arith, far.0, shown.count), λ path. far.1 (path.0, leads_reaches s net flow shown path.0 v path.1))

  pub distances_of : (labels : List ℕ) → AreExact s labels → AreDistances net flow labels
  distances_of labels exact = record {
    len = omega (arith, exact.len, shown.count);
    exact = λ v l. to_distance v (slice_index labels v) (exact.exact v (omega (arith, l, shown.count)));
  }

  pub exact_of : (labels : List ℕ) → AreDistances net flow labels → AreExact s labels
  exact_of labels are = record {
    len = omega (arith, are.len, shown.count);
    exact = λ v l. from_distance v (slice_index labels v) (are.exact v (omega (arith, l, shown.count)));
  }

pub exact_are_distances : (s : State) (labels : List ℕ) → IsSound s → IsQuiet s → AreExact s labels ↔ AreDistances s.net (shown_flow s) labels
exact_are_distances s labels sound quiet =
    (distances_of s s.net (shown_flow s) (quiet_shown s sound quiet) labels, exact_of s s.net (shown_flow s) (quiet_shown s sound quiet) labels)

-- ---- two lists that agree with the flow of a state at each place are that flow

pub flow_shown : (s : State) (xs ys : List ℕ) → IsSound s → length xs ≡ length s.net.arcs → length ys ≡ nodes s.net
    → ((k : ℕ) → k < length s.net.arcs → slice_index xs k ≡ residual_of s (backward k))
    → ((v : ℕ) → v < nodes s.net → slice_index ys v ≡ slice_index s.net.sinks v - room_of s v)
    → flow_by xs ys ≡ shown_flow s
flow_shown s xs ys sound lx ly arcs sinks =
    let f = shown_flow s in
    let la : length f.arcs ≡ length s.net.arcs = length-map s.lanes.back _ ∙ sound.sized.back in
    let ls : length f.sinks ≡ nodes s.net = length-map-range_with_len (λ (v : ℕ). slice_index s.net.sinks v - room_of s v) 0 (nodes s.net) in
    let e : xs ≡ f.arcs = ext_get_or 0 xs f.arcs (lx ∙ sym la) (λ k l. let lk : k < length s.net.arcs = omega (arith, l, lx) in arcs k lk ∙ sym (flow_arc s k sound lk)) in
    let g : ys ≡ f.sinks = ext_get_or 0 ys f.sinks (ly ∙ sym ls) (λ v l. let lv : v < nodes s.net = omega (arith, l, ly) in sinks v lv ∙ sym (flow_sink s v lv)) in
    ap (λ (zs : List ℕ). flow_by zs ys) e ∙ ap (λ (zs : List ℕ). flow_by f.arcs zs) g

-- ---- the rooms of a state, in a list

pub rooms_are : (s : State) (rooms : List ℕ) → IsSound s → length rooms ≡ nodes s.net
    → ((v : ℕ) → v < nodes s.net → slice_index rooms v ≡ room_of s v) → AreRooms s.net rooms
rooms_are s rooms sound len at = record { len = len; within = λ v l. omega (arith, at v l, sound.flow.rooms v l) }

pub rooms_shown : (s : State) (xs rooms : List ℕ) → IsSound s → length xs ≡ length s.net.arcs → length rooms ≡ nodes s.net
    → ((k : ℕ) → k < length s.net.arcs → slice_index xs k ≡ residual_of s (backward k))
    → ((v : ℕ) → v < nodes s.net → slice_index rooms v ≡ room_of s v)
    → flow_by xs (sink_flows s.net rooms) ≡ shown_flow s
rooms_shown s xs rooms sound lx lr arcs at =
    let are = rooms_are s rooms sound lr at in
    flow_shown s xs (sink_flows s.net rooms) sound lx (length-given s.net rooms sound.sized.net are) arcs
    (λ v l. omega (arith, given_at s.net rooms v sound.sized.net are l, at v l))

-- ---- the nodes whose exact label is below the top one reach the sink

pub reach_of : (s : State) (labels : List ℕ) (side : List Bool) → AreExact s labels → side ≡ map (λ label. nat_lt label (top s.net)) labels
    → IsReachOf s (set_of side)
reach_of s labels side exact bits =
    let at : (v : ℕ) → v < nodes s.net → set_of side v ≡ nat_lt (slice_index labels v) (top s.net) = λ v l.
    ap (λ (xs : List Bool). slice_index_or xs v false) bits ∙ map_at (λ label. nat_lt label (top s.net)) labels v false 0 (omega (arith, l, exact.len)) in
    record {
      sound = λ v l inside. elim (exact.exact v l) [
        | inl near ↦ (slice_index labels v, near.1)
        | inr far ↦
            let below : nat_lt (slice_index labels v) (top s.net) ≡ true = sym (at v l) ∙ inside in
            let less : slice_index labels v < top s.net = grind (arith, nat_tests) in
            absurd (omega (arith, less, far.0))
      ];
      complete = λ v l leads. elim (exact.exact v l) [
        | inl near ↦
            let less : slice_index labels v < top s.net = omega (arith, near.0) in
            let below : nat_lt (slice_index labels v) (top s.net) ≡ true = grind (arith, nat_tests) in
            at v l ∙ below
        | inr far ↦ absurd (far.1 leads)
      ];
    }

-- ---- what follows from a clause on an answer

pub if_ok : {A E : Type 0} (P Q : A → Type 0) (r : Result A E) → IfOk r P → ((x : A) → P x → Q x) → IfOk r Q
if_ok P Q (Ok x) fact follows = follows x fact
if_ok P Q (Err e) fact follows = fact
