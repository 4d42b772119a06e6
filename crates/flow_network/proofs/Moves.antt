-- Each move of the solver keeps what is sound, and lowers what is left.
use Rattle.std.proofs.Common.{◌≡◌, ◌≢◌, ℕ, zero, suc, ◌+◌, ◌-◌, ◌*◌, ◌<◌, ◌≤◌, ◌⊎◌, inl, inr, true, List, length, set, slice_index, sum, sym, ◌∙◌, ap, arith, get_or-set_same, get_or-set_other}
use Rattle.std.proofs.lemmas.List.{length-set}
use Rattle.std.proofs.lemmas.Bool.{cases_eq}
use Rattle.sums.specs.Sums.{sum_below}
use Rattle.flow_network.specs.Cut.{Network, nodes, IsNet, total_capacity}
use Rattle.flow_network.specs.Preflow.{arc_at, Flow, excess, sink_gets, IsPreflow, IsResidual, ReachesIn}
use Rattle.flow_network.specs.Labels.{IsLabelling}
use Rattle.flow_network.specs.Progress.{top, IsLabelledPreflow, rise_left, work_left}
use Rattle.sums.proofs.SumLemmas.{sum_below-zero, sum_below-change, sum_by-sum_below, term-le-sum_below}
use Rattle.flow_network.proofs.Duality.{capacity_is, arc_is}
use Rattle.flow_network.proofs.Bounds.{sum_is}
use Rattle.flow_network.proofs.Push.{IsMoved, moved_forward, moved_back, moved, IsKept, kept_moved, labels_kept, forward_new, back_new, relabel_lowers}

-- ---- all excess, with what the sink gets, is what the source sends

pub excess_total : (net : Network) (flow : Flow) → IsNet net → IsPreflow net flow
    → sum_below (nodes net) (excess net flow) + sink_gets net flow ≡ sum net.sources
excess_total net flow h p =
    omega (
      arith,
      capacity_is net flow (λ v. true) h p,
      sum_is net.sources,
      sum_below-zero (nodes net),
      sum_below-zero (length net.arcs),
      sum_by-sum_below (λ arc. 0) net.arcs (record { from = 0; to = 0; capacity = 0 }),
    )

pub kept-le-total : (net : Network) (flow : Flow) (kept labels : List ℕ) → IsNet net → IsLabelledPreflow net flow kept labels
    → (v : ℕ) → v < nodes net → slice_index kept v ≤ total_capacity net
kept-le-total net flow kept labels h s v l =
    omega (arith, excess_total net flow h s.preflow, term-le-sum_below (nodes net) (excess net flow) v l, s.told v l)

-- ---- pushes along an arc

arcs_after : (net : Network) (fs : List ℕ) (k y : ℕ) → length fs ≡ length net.arcs → k < length net.arcs → y ≤ (arc_at net k).capacity
    → ((i : ℕ) → i < length net.arcs → slice_index fs i ≤ (arc_at net i).capacity)
    → (i : ℕ) → i < length net.arcs → slice_index (set fs k y) i ≤ (arc_at net i).capacity
arcs_after net fs k y e l fits old i li = elim (cases_eq i k) [
  | inl same ↦
      let here : slice_index (set fs k y) i ≡ y = ap (slice_index (set fs k y)) same ∙ get_or-set_same fs k y 0 (omega arith) in
      let cap = ap (λ j. (arc_at net j).capacity) same in
      omega (arith, here, fits, cap)
  | inr other ↦ omega (arith, old i li, get_or-set_other fs k i y 0 other)
]

pub push_sound : (net : Network) (flow : Flow) (kept labels : List ℕ) (k y u w z : ℕ) → IsLabelledPreflow net flow kept labels
    → k < length net.arcs → y ≤ (arc_at net k).capacity → u < nodes net → w < nodes net → z ≤ slice_index kept u
    → slice_index labels u ≡ slice_index labels w + 1
    → IsMoved net flow (record { arcs = set flow.arcs k y; sinks = flow.sinks }) u w z
    → ((a b : ℕ) → IsResidual net (record { arcs = set flow.arcs k y; sinks = flow.sinks }) a b → IsResidual net flow a b ⊎ ((a ≡ w) × (b ≡ u)))
    → IsLabelledPreflow net (record { arcs = set flow.arcs k y; sinks = flow.sinks }) (moved kept u w z) labels
push_sound net flow kept labels k y u w z s l fits lu lw le down m new =
    let flow' : Flow = record { arcs = set flow.arcs k y; sinks = flow.sinks } in
    let ne : u ≢ w = λ e. (let same = ap (slice_index labels) e in omega (arith, same, down)) in
    let all = kept_moved net flow flow' kept u w z m ne s.kept_len lu lw le (λ v lv. record { covered = s.preflow.covered v lv; told = s.told v lv }) in
    record {
      preflow = record {
        arcs_len = length-set flow.arcs k y ∙ s.preflow.arcs_len;
        sinks_len = s.preflow.sinks_len;
        arcs = arcs_after net flow.arcs k y s.preflow.arcs_len l fits s.preflow.arcs;
        sinks = s.preflow.sinks;
        covered = λ v lv. (all v lv).covered;
      };
      kept_len = length-set (set kept u (slice_index kept u - z)) w (slice_index kept w + z) ∙ (length-set kept u (slice_index kept u - z) ∙ s.kept_len);
      told = λ v lv. (all v lv).told;
      labelling = labels_kept net flow flow' labels u w s.labelling down (λ v lv. omega arith) new;
      below_top = s.below_top;
    }

pub forward_sound : (net : Network) (flow : Flow) (kept labels : List ℕ) (k z : ℕ) → IsNet net → IsLabelledPreflow net flow kept labels
    → k < length net.arcs → z ≤ slice_index kept (arc_at net k).from → slice_index flow.arcs k + z ≤ (arc_at net k).capacity
    → slice_index flow.arcs k < (arc_at net k).capacity
    → slice_index labels (arc_at net k).from ≡ slice_index labels (arc_at net k).to + 1
    → IsLabelledPreflow net (record { arcs = set flow.arcs k (slice_index flow.arcs k + z); sinks = flow.sinks }) (moved kept (arc_at net k).from (arc_at net k).to z) labels
forward_sound net flow kept labels k z h s l le fits room down =
    push_sound net flow kept labels k (slice_index flow.arcs k + z) (arc_at net k).from (arc_at net k).to z s l fits
    (arc_is net h k l).from (arc_is net h k l).to le down (moved_forward net flow k z l s.preflow.arcs_len)
    (forward_new net flow k (slice_index flow.arcs k + z) room (omega arith))

pub back_sound : (net : Network) (flow : Flow) (kept labels : List ℕ) (k z : ℕ) → IsNet net → IsLabelledPreflow net flow kept labels
    → k < length net.arcs → z ≤ slice_index kept (arc_at net k).to → z ≤ slice_index flow.arcs k → 0 < slice_index flow.arcs k
    → slice_index labels (arc_at net k).to ≡ slice_index labels (arc_at net k).from + 1
    → IsLabelledPreflow net (record { arcs = set flow.arcs k (slice_index flow.arcs k - z); sinks = flow.sinks }) (moved kept (arc_at net k).to (arc_at net k).from z) labels
back_sound net flow kept labels k z h s l le fits some down =
    push_sound net flow kept labels k (slice_index flow.arcs k - z) (arc_at net k).to (arc_at net k).from z s l (omega (arith, s.preflow.arcs k l))
    (arc_is net h k l).to (arc_is net h k l).from le down (moved_back net flow k z l s.preflow.arcs_len fits)
    (back_new net flow k (slice_index flow.arcs k - z) some)

-- ---- a gift to the sink

pub give_sound : (net : Network) (flow : Flow) (kept labels : List ℕ) (u z : ℕ) → IsLabelledPreflow net flow kept labels → u < nodes net
    → z ≤ slice_index kept u → slice_index flow.sinks u + z ≤ slice_index net.sinks u
    → IsLabelledPreflow net (record { arcs = flow.arcs; sinks = set flow.sinks u (slice_index flow.sinks u + z) }) (set kept u (slice_index kept u - z)) labels
give_sound net flow kept labels u z s lu le fits =
    let y = slice_index flow.sinks u + z in
    let flow' : Flow = record { arcs = flow.arcs; sinks = set flow.sinks u y } in
    let long : u < length flow.sinks = omega (arith, s.preflow.sinks_len) in
    let here : slice_index (set flow.sinks u y) u ≡ y = get_or-set_same flow.sinks u y 0 long in
    let there : slice_index (set kept u (slice_index kept u - z)) u ≡ slice_index kept u - z = get_or-set_same kept u (slice_index kept u - z) 0 (omega (arith, s.kept_len)) in
    let at : (v : ℕ) → v < nodes net → IsKept net flow' (set kept u (slice_index kept u - z)) v = λ v lv. elim (cases_eq v u) [
      | inl same ↦
          let f1 = ap (slice_index (set flow.sinks u y)) same in
          let f2 = ap (slice_index (set kept u (slice_index kept u - z))) same in
          let f3 = ap (slice_index kept) same in
          let f4 = ap (slice_index flow.sinks) same in
          let c = s.preflow.covered v lv in
          let t = s.told v lv in
          record { covered = omega (arith, f1, f2, f3, f4, here, there, c, t, le); told = omega (arith, f1, f2, f3, f4, here, there, c, t, le) }
      | inr other ↦
          let f1 = get_or-set_other flow.sinks u v y 0 other in
          let f2 = get_or-set_other kept u v (slice_index kept u - z) 0 other in
          let c = s.preflow.covered v lv in
          let t = s.told v lv in
          record { covered = omega (arith, f1, f2, c, t); told = omega (arith, f1, f2, c, t) }
    ] in
    let grown : (v : ℕ) → v < nodes net → (slice_index flow.sinks v ≤ slice_index (set flow.sinks u y) v) × (slice_index (set flow.sinks u y) v ≤ slice_index net.sinks v) = λ v lv. elim (cases_eq v u) [
      | inl same ↦
          let f1 = ap (slice_index (set flow.sinks u y)) same in
          let f4 = ap (slice_index flow.sinks) same in
          let f5 = ap (slice_index net.sinks) same in
          (omega (arith, f1, f4, here), omega (arith, f1, f5, here, fits))
      | inr other ↦
          let f1 = get_or-set_other flow.sinks u v y 0 other in
          (omega (arith, f1), omega (arith, f1, s.preflow.sinks v lv))
    ] in
    record {
      preflow = record {
        arcs_len = s.preflow.arcs_len;
        sinks_len = length-set flow.sinks u y ∙ s.preflow.sinks_len;
        arcs = s.preflow.arcs;
        sinks = λ v lv. (grown v lv).1;
        covered = λ v lv. (at v lv).covered;
      };
      kept_len = length-set kept u (slice_index kept u - z) ∙ s.kept_len;
      told = λ v lv. (at v lv).told;
      labelling = record {
        len = s.labelling.len;
        sinks = λ v lv room. s.labelling.sinks v lv (omega (arith, room, (grown v lv).0));
        arcs = s.labelling.arcs;
      };
      below_top = s.below_top;
    }

-- ---- a new label

pub relabel_sound : (net : Network) (flow : Flow) (kept labels : List ℕ) (u j : ℕ) → IsLabelledPreflow net flow kept labels → u < nodes net
    → slice_index labels u ≤ j → j ≤ top net
    → (slice_index flow.sinks u < slice_index net.sinks u → j ≤ 1)
    → ((b : ℕ) → IsResidual net flow u b → j ≤ slice_index labels b + 1)
    → IsLabelledPreflow net flow kept (set labels u j)
relabel_sound net flow kept labels u j s lu up fits sinks arcs =
    let here : slice_index (set labels u j) u ≡ j = get_or-set_same labels u j 0 (omega (arith, s.labelling.len)) in
    let grown : (b : ℕ) → slice_index labels b ≤ slice_index (set labels u j) b = λ b. elim (cases_eq b u) [
      | inl same ↦
          let f1 = ap (slice_index (set labels u j)) same in
          let f2 = ap (slice_index labels) same in
          omega (arith, f1, f2, here, up)
      | inr other ↦ omega (arith, get_or-set_other labels u b j 0 other)
    ] in
    record {
      preflow = s.preflow;
      kept_len = s.kept_len;
      told = s.told;
      labelling = record {
        len = length-set labels u j ∙ s.labelling.len;
        sinks = λ v lv room. elim (cases_eq v u) [
          | inl same ↦
              let f1 = ap (slice_index (set labels u j)) same in
              let f2 = ap (slice_index flow.sinks) same in
              let f3 = ap (slice_index net.sinks) same in
              let low = sinks (omega (arith, f2, f3, room)) in
              omega (arith, f1, here, low)
          | inr other ↦ omega (arith, get_or-set_other labels u v j 0 other, s.labelling.sinks v lv room)
        ];
        arcs = λ a b step. elim (cases_eq a u) [
          | inl same ↦
              let f1 = ap (slice_index (set labels u j)) same in
              let low = arcs b (rw same at step) in
              omega (arith, f1, here, low, grown b)
          | inr other ↦ omega (arith, get_or-set_other labels u a j 0 other, s.labelling.arcs a b step, grown b)
        ];
      };
      below_top = λ v lv. elim (cases_eq v u) [
        | inl same ↦ let f1 = ap (slice_index (set labels u j)) same in omega (arith, f1, here, fits)
        | inr other ↦ omega (arith, get_or-set_other labels u v j 0 other, s.below_top v lv)
      ];
    }

pub relabel_lowers_all : (net : Network) (flow : Flow) (kept labels : List ℕ) (u j : ℕ) → IsNet net → IsLabelledPreflow net flow kept labels → u < nodes net
    → slice_index labels u < j → j ≤ top net
    → work_left net kept (set labels u j) < work_left net kept labels
relabel_lowers_all net flow kept labels u j h s lu up fits =
    let here : slice_index (set labels u j) u ≡ j = get_or-set_same labels u j 0 (omega (arith, s.labelling.len)) in
    let rise = sum_below-change (nodes net) u (λ v. top net - slice_index labels v) (λ v. top net - slice_index (set labels u j) v) lu
    (λ i l ne. ap (λ q. top net - q) (sym (get_or-set_other labels u i j 0 ne))) in
    let high = sum_below-change (nodes net) u (λ v. slice_index kept v * (slice_index labels v + 1)) (λ v. slice_index kept v * (slice_index (set labels u j) v + 1)) lu
    (λ i l ne. ap (λ q. slice_index kept i * (q + 1)) (sym (get_or-set_other labels u i j 0 ne))) in
    let d = slice_index labels u in
    let e = slice_index kept u in
    let g = rise_left net (set labels u j) in
    let g_is : rise_left net labels ≡ g + (j - d) = omega (arith, rise, here, up, fits) in
    let j_is : d + (j - d) + 1 ≡ j + 1 = omega (arith, up) in
    let small = kept-le-total net flow kept labels h s u lu in
    let lower = relabel_lowers e g d (j - d) 0 (total_capacity net + 1) (omega (arith, small)) (omega (arith, up)) in
    let e1 = ap (λ q. e * q) j_is in
    let e2 = ap (λ q. q * (total_capacity net + 1)) g_is in
    let e3 = ap (λ q. e * (q + 1)) here in
    omega (arith, lower, high, e1, e2, e3)

-- ---- labels are at most the lengths of residual paths

pub label-le-path : (net : Network) (flow : Flow) (labels : List ℕ) → IsLabelling net flow labels
    → (d v : ℕ) → ReachesIn net flow d v → slice_index labels v ≤ d
label-le-path net flow labels h zero v path = absurd path
label-le-path net flow labels h (suc zero) v (l, room) = h.sinks v l room
label-le-path net flow labels h (suc (suc d)) v (w, step, path) =
    omega (arith, label-le-path net flow labels h (suc d) w path, h.arcs v w step)
