-- Where no node that reaches the sink has excess, the nodes that reach it are the smallest least
-- cut.
use Rattle.std.proofs.Common.{◌≡◌, ℕ, zero, suc, ◌-◌, ◌<◌, ◌≤◌, inl, inr, Bool, true, false, not, ◌&&◌, length, slice_index, refl, ◌∙◌, ap, arith}
use Rattle.std.proofs.lemmas.Bool.{cases_lt, cases_Bool}
use Rattle.sums.specs.Sums.{count_if}
use Rattle.flow_network.specs.Cut.{Network, nodes, enters, capacity_of, IsSmallestLeastCut, IsNet}
use Rattle.flow_network.specs.Preflow.{arc_at, Flow, excess, sink_gets, IsPreflow, IsResidual, ReachesIn, Reaches, IsReach}
use Rattle.sums.proofs.SumLemmas.{counted-true, counted-zero, sum_below-none, term-le-sum_below}
use Rattle.flow_network.proofs.Duality.{capacity_is, arc_is, sink_gets-le-capacity}

enters_means : (s t : Bool) → (t && not s) ≡ true → (t ≡ true) × (s ≡ false)
enters_means true true h = absurd (cc)
enters_means true false h = absurd (cc)
enters_means false true h = (refl, refl)
enters_means false false h = absurd (cc)

enters_from : (s t : Bool) → t ≡ true → s ≡ false → (t && not s) ≡ true
enters_from true t h i = cc
enters_from false true h i = refl
enters_from false false h i = cc

-- a step before a path
pub reaches_before : (net : Network) (flow : Flow) (v w : ℕ) → IsResidual net flow v w → Reaches net flow w → Reaches net flow v
reaches_before net flow v w step (zero, path) = absurd path
reaches_before net flow v w step (suc d, path) = (suc (suc d), (w, step, path))

-- ---- the set that reaches the sink, where it keeps no excess

sinks_full : (net : Network) (flow : Flow) (side : ℕ → Bool) → IsReach net flow side
    → (v : ℕ) → v < nodes net → not (side v) ≡ true → slice_index net.sinks v - slice_index flow.sinks v ≡ 0
sinks_full net flow side r v l out = elim (cases_lt (slice_index flow.sinks v) (slice_index net.sinks v)) [
  | inl room ↦ let inside : side v ≡ true = r.complete v l (1, (l, room)) in absurd (cc)
  | inr full ↦ omega arith
]

inwards_full : (net : Network) (flow : Flow) (side : ℕ → Bool) → IsNet net → IsReach net flow side → (k : ℕ) → k < length net.arcs
    → enters side (arc_at net k) ≡ true → (arc_at net k).capacity - slice_index flow.arcs k ≡ 0
inwards_full net flow side h r k l e =
    let ends = enters_means (side (arc_at net k).from) (side (arc_at net k).to) e in
    elim (cases_lt (slice_index flow.arcs k) (arc_at net k).capacity) [
      | inl room ↦
          let inside : side (arc_at net k).from ≡ true =
          r.complete (arc_at net k).from (arc_is net h k l).from
          (reaches_before net flow (arc_at net k).from (arc_at net k).to (k, l, inl (refl, refl, room)) (r.sound (arc_at net k).to (arc_is net h k l).to ends.0)) in
          let outside : side (arc_at net k).from ≡ false = ends.1 in
          absurd (cc)
      | inr full ↦ omega arith
    ]

outwards_empty : (net : Network) (flow : Flow) (side : ℕ → Bool) → IsNet net → IsReach net flow side → (k : ℕ) → k < length net.arcs
    → (side (arc_at net k).from && not (side (arc_at net k).to)) ≡ true → slice_index flow.arcs k ≡ 0
outwards_empty net flow side h r k l e =
    let ends = enters_means (side (arc_at net k).to) (side (arc_at net k).from) e in
    elim (cases_lt 0 (slice_index flow.arcs k)) [
      | inl some ↦
          let inside : side (arc_at net k).to ≡ true =
          r.complete (arc_at net k).to (arc_is net h k l).to
          (reaches_before net flow (arc_at net k).to (arc_at net k).from (k, l, inr (refl, refl, some)) (r.sound (arc_at net k).from (arc_is net h k l).from ends.0)) in
          let outside : side (arc_at net k).to ≡ false = ends.1 in
          absurd (cc)
      | inr none ↦ omega arith
    ]

pub capacity_of_reach : (net : Network) (flow : Flow) (side : ℕ → Bool) → IsNet net → IsPreflow net flow → IsReach net flow side
    → ((v : ℕ) → v < nodes net → side v ≡ true → excess net flow v ≡ 0)
    → sink_gets net flow ≡ capacity_of net side
capacity_of_reach net flow side h p r still =
    omega (
      arith,
      capacity_is net flow side h p,
      sum_below-none (nodes net) (λ v. count_if (side v) (excess net flow v)) (λ v l. counted-zero (side v) _ (still v l)),
      sum_below-none (nodes net) (λ v. count_if (not (side v)) (slice_index net.sinks v - slice_index flow.sinks v))
          (λ v l. counted-zero (not (side v)) _ (sinks_full net flow side r v l)),
      sum_below-none (length net.arcs) (λ k. count_if (enters side (arc_at net k)) ((arc_at net k).capacity - slice_index flow.arcs k))
          (λ k l. counted-zero (enters side (arc_at net k)) _ (inwards_full net flow side h r k l)),
      sum_below-none (length net.arcs) (λ k. count_if (side (arc_at net k).from && not (side (arc_at net k).to)) (slice_index flow.arcs k))
          (λ k l. counted-zero (side (arc_at net k).from && not (side (arc_at net k).to)) _ (outwards_empty net flow side h r k l)),
    )

-- ---- a set whose capacity is what the sink gets: no path leads into it

pub record IsTight (net : Network) (flow : Flow) (side : ℕ → Bool) : Type 0 where
  pub sinks : (v : ℕ) → v < nodes net → count_if (not (side v)) (slice_index net.sinks v - slice_index flow.sinks v) ≡ 0
  pub inwards : (k : ℕ) → k < length net.arcs → count_if (enters side (arc_at net k)) ((arc_at net k).capacity - slice_index flow.arcs k) ≡ 0
  pub outwards : (k : ℕ) → k < length net.arcs → count_if (side (arc_at net k).from && not (side (arc_at net k).to)) (slice_index flow.arcs k) ≡ 0

pub tight : (net : Network) (flow : Flow) (side : ℕ → Bool) → IsNet net → IsPreflow net flow
    → capacity_of net side ≤ sink_gets net flow → IsTight net flow side
tight net flow side h p low =
    let total = capacity_is net flow side h p in
    record {
      sinks = λ v l. omega (arith, total, low, term-le-sum_below (nodes net) (λ v. count_if (not (side v)) (slice_index net.sinks v - slice_index flow.sinks v)) v l);
      inwards = λ k l. omega (arith, total, low, term-le-sum_below (length net.arcs) (λ k. count_if (enters side (arc_at net k)) ((arc_at net k).capacity - slice_index flow.arcs k)) k l);
      outwards = λ k l. omega (arith, total, low, term-le-sum_below (length net.arcs) (λ k. count_if (side (arc_at net k).from && not (side (arc_at net k).to)) (slice_index flow.arcs k)) k l);
    }

-- a node that reaches the sink is in each tight set
pub reach_is_inside : (net : Network) (flow : Flow) (side : ℕ → Bool) → IsNet net → IsTight net flow side
    → (d v : ℕ) → ReachesIn net flow d v → side v ≡ false → ⊥
reach_is_inside net flow side h t zero v path out = path
reach_is_inside net flow side h t (suc zero) v (l, room) out =
    let outside : not (side v) ≡ true = ap not out in
    let whole = counted-true (not (side v)) (slice_index net.sinks v - slice_index flow.sinks v) outside in
    omega (arith, t.sinks v l, whole, room)
reach_is_inside net flow side h t (suc (suc d)) v (w, (k, l, choice), path) out =
    elim (cases_Bool (side w)) [
      | inr beyond ↦ reach_is_inside net flow side h t (suc d) w path beyond
      | inl inside ↦ elim choice [
        | inl forward ↦
            let from_out : side (arc_at net k).from ≡ false = ap side forward.0 ∙ out in
            let to_in : side (arc_at net k).to ≡ true = ap side forward.1 ∙ inside in
            let whole = counted-true (enters side (arc_at net k)) ((arc_at net k).capacity - slice_index flow.arcs k)
            (enters_from (side (arc_at net k).from) (side (arc_at net k).to) to_in from_out) in
            omega (arith, t.inwards k l, whole, forward.2)
        | inr back ↦
            let to_out : side (arc_at net k).to ≡ false = ap side back.0 ∙ out in
            let from_in : side (arc_at net k).from ≡ true = ap side back.1 ∙ inside in
            let whole = counted-true (side (arc_at net k).from && not (side (arc_at net k).to)) (slice_index flow.arcs k)
            (enters_from (side (arc_at net k).to) (side (arc_at net k).from) from_in to_out) in
            omega (arith, t.outwards k l, whole, back.2)
      ]
    ]

-- the law
pub smallest_least : (net : Network) (flow : Flow) (side : ℕ → Bool) → IsNet net → IsPreflow net flow → IsReach net flow side
    → ((v : ℕ) → v < nodes net → side v ≡ true → excess net flow v ≡ 0)
    → IsSmallestLeastCut net side
smallest_least net flow side h p r still =
    let full = capacity_of_reach net flow side h p r still in
    record {
      least = λ other. omega (arith, full, sink_gets-le-capacity net flow other h p);
      smallest = λ other best v l inside.
          let low : capacity_of net other ≤ sink_gets net flow = omega (arith, full, best side) in
          elim (cases_Bool (other v)) [
            | inl holds ↦ holds
            | inr fails ↦ let path = r.sound v l inside in absurd (reach_is_inside net flow other h (tight net flow other h p low) path.0 v path.1 fails)
          ];
    }
