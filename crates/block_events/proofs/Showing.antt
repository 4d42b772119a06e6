-- A net and a flow whose residual directions are those of a state have its paths to the sink.
use Rattle.std.proofs.Common.{◌≡◌, ℕ, zero, suc, ◌+◌, ◌<◌, Bool, true, false, length, slice_index, sym, ◌∙◌, subst, inl, inr, arith}
use Rattle.flow_network.specs.Cut.{Network, nodes}
use Rattle.flow_network.specs.Preflow.{Flow, arc_at, IsResidual, ReachesIn as FlowReaches}
use Rattle.block_events.specs.Directions.{forward, backward, near, far}
use Rattle.block_events.specs.States.{State, room_of, residual_of}
use Rattle.block_events.specs.Reach.{ReachesSinkIn}

-- the same nodes and ends of arcs; each arc carries what can be taken back in the state and has
-- both residuals as its capacity; and each node has its room left
pub record IsShown (s : State) (net : Network) (flow : Flow) : Type 0 where
  pub count : nodes net ≡ nodes s.net
  pub arcs : length net.arcs ≡ length s.net.arcs
  pub from : (k : ℕ) → k < length s.net.arcs → (arc_at net k).from ≡ (arc_at s.net k).from
  pub to : (k : ℕ) → k < length s.net.arcs → (arc_at net k).to ≡ (arc_at s.net k).to
  pub carried : (k : ℕ) → k < length s.net.arcs → slice_index flow.arcs k ≡ residual_of s (backward k)
  pub full : (k : ℕ) → k < length s.net.arcs → residual_of s (forward k) + residual_of s (backward k) ≡ (arc_at net k).capacity
  pub rooms : (v : ℕ) → v < nodes s.net → slice_index flow.sinks v + room_of s v ≡ slice_index net.sinks v

module _ (s : State) (net : Network) (flow : Flow) (shown : IsShown s net flow) where
  residual_at : (k : ℕ) (b : Bool) (v : ℕ) → k < length s.net.arcs
      → near s.net (record { arc = k; back = b }) ≡ v → 0 < residual_of s (record { arc = k; back = b })
      → IsResidual net flow v (far s.net (record { arc = k; back = b }))
  residual_at k true v l at_v some =
      (k, omega (arith, l, shown.arcs), inr (shown.to k l ∙ at_v, shown.from k l, omega (arith, some, shown.carried k l)))
  residual_at k false v l at_v some =
      (k, omega (arith, l, shown.arcs), inl (shown.from k l ∙ at_v, shown.to k l, omega (arith, some, shown.carried k l, shown.full k l)))

  pub leads_reaches : (d v : ℕ) → ReachesSinkIn s d v → FlowReaches net flow d v
  leads_reaches zero v path = path
  leads_reaches (suc zero) v (l, room) = (omega (arith, l, shown.count), omega (arith, room, shown.rooms v l))
  leads_reaches (suc (suc d)) v (x, l, at_v, some, path) =
      (far s.net x, residual_at x.arc x.back v l at_v some, leads_reaches (suc d) (far s.net x) path)

  pub reaches_leads : (d v : ℕ) → FlowReaches net flow d v → ReachesSinkIn s d v
  reaches_leads zero v path = path
  reaches_leads (suc zero) v (in_net, room) =
      let l : v < nodes s.net = omega (arith, in_net, shown.count) in
      (l, omega (arith, room, shown.rooms v l))
  reaches_leads (suc (suc d)) v (w, (k, in_net, inl forth), path) =
      let l : k < length s.net.arcs = omega (arith, in_net, shown.arcs) in
      let at_w : far s.net (forward k) ≡ w = sym (shown.to k l) ∙ forth.1 in
      let rest : ReachesSinkIn s (suc d) (far s.net (forward k)) = subst (λ (u : ℕ). ReachesSinkIn s (suc d) u) (sym at_w) (reaches_leads (suc d) w path) in
      (forward k, l, sym (shown.from k l) ∙ forth.0, omega (arith, forth.2, shown.carried k l, shown.full k l), rest)
  reaches_leads (suc (suc d)) v (w, (k, in_net, inr back), path) =
      let l : k < length s.net.arcs = omega (arith, in_net, shown.arcs) in
      let at_w : far s.net (backward k) ≡ w = sym (shown.from k l) ∙ back.1 in
      let rest : ReachesSinkIn s (suc d) (far s.net (backward k)) = subst (λ (u : ℕ). ReachesSinkIn s (suc d) u) (sym at_w) (reaches_leads (suc d) w path) in
      (backward k, l, sym (shown.to k l) ∙ back.0, omega (arith, back.2, shown.carried k l), rest)
