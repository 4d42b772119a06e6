-- One push, and one new label.
use Rattle.std.proofs.Common.{◌≡◌, ◌≢◌, ℕ, ◌+◌, ◌-◌, ◌*◌, ◌<◌, ◌≤◌, ◌⊎◌, inl, inr, Bool, true, false, eqb, List, length, set, slice_index, refl, sym, ◌∙◌, ap, arith, get_or-set_same, get_or-set_other}
use Rattle.std.proofs.lemmas.List.{length-set}
use Rattle.std.proofs.lemmas.Bool.{cases_eq}
use Rattle.sums.specs.Sums.{sum_below, count_if}
use Rattle.flow_network.specs.Cut.{Network, nodes}
use Rattle.flow_network.specs.Preflow.{arc_at, Flow, gets, total_outflow, excess, IsResidual}
use Rattle.flow_network.specs.Labels.{IsLabelling}
use Rattle.flow_network.specs.Progress.{excess_height, work_left}
use Rattle.sums.proofs.SumLemmas.{sum_below-change, counted-same, counted-other}

-- ---- sums after a write

-- what the arcs of some kind carry, after a write
pub ends_set : (m k : ℕ) (end : ℕ → Bool) (fs : List ℕ) (y : ℕ) → k < m → k < length fs
    → sum_below m (λ i. count_if (end i) (slice_index (set fs k y) i)) + count_if (end k) (slice_index fs k)
    ≡ sum_below m (λ i. count_if (end i) (slice_index fs i)) + count_if (end k) y
ends_set m k end fs y l l' =
    let here : slice_index (set fs k y) k ≡ y = get_or-set_same fs k y 0 l' in
    let change = sum_below-change m k (λ i. count_if (end i) (slice_index fs i)) (λ i. count_if (end i) (slice_index (set fs k y) i)) l
    (λ i h ne. ap (count_if (end i)) (sym (get_or-set_other fs k i y 0 ne))) in
    omega (arith, change, ap (count_if (end k)) here)

counted-add : (b : Bool) (y z : ℕ) → count_if b (y + z) ≡ count_if b y + count_if b z
counted-add true y z = refl
counted-add false y z = refl

-- ---- the excess after a move of z from u to w

pub record IsMoved (net : Network) (flow flow' : Flow) (u w z : ℕ) : Type 0 where
  pub balance : (v : ℕ) → v < nodes net
      → gets net flow' v + total_outflow net flow v + count_if (eqb u v) z ≡ total_outflow net flow' v + gets net flow v + count_if (eqb w v) z

pub moved_forward : (net : Network) (flow : Flow) (k z : ℕ) → k < length net.arcs → length flow.arcs ≡ length net.arcs
    → IsMoved net flow (record { arcs = set flow.arcs k (slice_index flow.arcs k + z); sinks = flow.sinks }) (arc_at net k).from (arc_at net k).to z
moved_forward net flow k z l e =
    let l' : k < length flow.arcs = omega arith in
    let f = slice_index flow.arcs k in
    record {
      balance = λ v h. omega (
        arith,
        ends_set (length net.arcs) k (λ i. eqb (arc_at net i).to v) flow.arcs (f + z) l l',
        counted-add (eqb (arc_at net k).to v) f z,
        ends_set (length net.arcs) k (λ i. eqb (arc_at net i).from v) flow.arcs (f + z) l l',
        counted-add (eqb (arc_at net k).from v) f z,
      );
    }

pub moved_back : (net : Network) (flow : Flow) (k z : ℕ) → k < length net.arcs → length flow.arcs ≡ length net.arcs
    → z ≤ slice_index flow.arcs k
    → IsMoved net flow (record { arcs = set flow.arcs k (slice_index flow.arcs k - z); sinks = flow.sinks }) (arc_at net k).to (arc_at net k).from z
moved_back net flow k z l e le =
    let l' : k < length flow.arcs = omega arith in
    let f = slice_index flow.arcs k - z in
    let whole : slice_index flow.arcs k ≡ f + z = omega arith in
    record {
      balance = λ v h. omega (
        arith,
        ends_set (length net.arcs) k (λ i. eqb (arc_at net i).to v) flow.arcs f l l',
        counted-add (eqb (arc_at net k).to v) f z,
        ap (count_if (eqb (arc_at net k).to v)) whole,
        ends_set (length net.arcs) k (λ i. eqb (arc_at net i).from v) flow.arcs f l l',
        counted-add (eqb (arc_at net k).from v) f z,
        ap (count_if (eqb (arc_at net k).from v)) whole,
      );
    }

-- the list after the move
abbrev pub moved : List ℕ → ℕ → ℕ → ℕ → List ℕ
moved kept u w z = set (set kept u (slice_index kept u - z)) w (slice_index kept w + z)

pub record IsKept (net : Network) (flow : Flow) (kept : List ℕ) (v : ℕ) : Type 0 where
  pub covered : total_outflow net flow v ≤ gets net flow v
  pub told : slice_index kept v ≡ excess net flow v

balance_at_from : (a b a' b' z e : ℕ) → a' + b + z ≡ b' + a → b ≤ a → e ≡ a - b → z ≤ e → (b' ≤ a') × ((e - z) ≡ a' - b')
balance_at_from a b a' b' z e h l he hz = (omega arith, omega arith)

balance_at_to : (a b a' b' z e : ℕ) → a' + b ≡ b' + a + z → b ≤ a → e ≡ a - b → (b' ≤ a') × ((e + z) ≡ a' - b')
balance_at_to a b a' b' z e h l he = (omega arith, omega arith)

pub kept_moved : (net : Network) (flow flow' : Flow) (kept : List ℕ) (u w z : ℕ) → IsMoved net flow flow' u w z → u ≢ w
    → length kept ≡ nodes net → u < nodes net → w < nodes net → z ≤ slice_index kept u
    → ((v : ℕ) → v < nodes net → IsKept net flow kept v)
    → (v : ℕ) → v < nodes net → IsKept net flow' (moved kept u w z) v
kept_moved net flow flow' kept u w z m ne len lu lw le old v lv =
    let o = old v lv in
    let b = m.balance v lv in
    elim (cases_eq v u) [
      | inl here ↦
          let c1 : count_if (eqb u v) z ≡ z = ap (λ i. count_if (eqb u i) z) here ∙ counted-same u z in
          let c2 : count_if (eqb w v) z ≡ 0 = counted-other w v z (λ e. ne (sym here ∙ e)) in
          let r1 : slice_index (moved kept u w z) v ≡ slice_index (set kept u (slice_index kept u - z)) v =
          get_or-set_other (set kept u (slice_index kept u - z)) w v (slice_index kept w + z) 0 (λ e. ne (sym here ∙ e)) in
          let r2 : slice_index (set kept u (slice_index kept u - z)) v ≡ slice_index kept u - z =
          ap (slice_index (set kept u (slice_index kept u - z))) here ∙ get_or-set_same kept u (slice_index kept u - z) 0 (omega arith) in
          let same : slice_index kept v ≡ slice_index kept u = ap (slice_index kept) here in
          let at = balance_at_from (gets net flow v) (total_outflow net flow v) (gets net flow' v) (total_outflow net flow' v) z (slice_index kept u)
          (omega (arith, b, c1, c2)) o.covered (sym same ∙ o.told) le in
          record { covered = at.0; told = r1 ∙ (r2 ∙ at.1) }
      | inr off ↦ elim (cases_eq v w) [
        | inl there ↦
            let c1 : count_if (eqb u v) z ≡ 0 = counted-other u v z off in
            let c2 : count_if (eqb w v) z ≡ z = ap (λ i. count_if (eqb w i) z) there ∙ counted-same w z in
            let r1 : slice_index (moved kept u w z) v ≡ slice_index kept w + z =
            ap (slice_index (moved kept u w z)) there ∙ get_or-set_same (set kept u (slice_index kept u - z)) w (slice_index kept w + z) 0
            (omega (arith, length-set kept u (slice_index kept u - z))) in
            let same : slice_index kept v ≡ slice_index kept w = ap (slice_index kept) there in
            let at = balance_at_to (gets net flow v) (total_outflow net flow v) (gets net flow' v) (total_outflow net flow' v) z (slice_index kept w)
            (omega (arith, b, c1, c2)) o.covered (sym same ∙ o.told) in
            record { covered = at.0; told = r1 ∙ at.1 }
        | inr away ↦
            let c1 : count_if (eqb u v) z ≡ 0 = counted-other u v z off in
            let c2 : count_if (eqb w v) z ≡ 0 = counted-other w v z away in
            let r1 : slice_index (moved kept u w z) v ≡ slice_index (set kept u (slice_index kept u - z)) v =
            get_or-set_other (set kept u (slice_index kept u - z)) w v (slice_index kept w + z) 0 away in
            let r2 : slice_index (set kept u (slice_index kept u - z)) v ≡ slice_index kept v =
            get_or-set_other kept u v (slice_index kept u - z) 0 off in
            let at = balance_at_to (gets net flow v) (total_outflow net flow v) (gets net flow' v) (total_outflow net flow' v) 0 (slice_index kept v)
            (omega (arith, b, c1, c2)) o.covered o.told in
            record { covered = at.0; told = r1 ∙ (r2 ∙ omega (arith, at.1)) }
      ]
    ]

-- ---- labels

-- where the only new direction leads one label up, the labels still fit
pub labels_kept : (net : Network) (flow flow' : Flow) (labels : List ℕ) (u w : ℕ) → IsLabelling net flow labels
    → slice_index labels u ≡ slice_index labels w + 1
    → ((v : ℕ) → v < nodes net → slice_index flow.sinks v ≤ slice_index flow'.sinks v)
    → ((a b : ℕ) → IsResidual net flow' a b → IsResidual net flow a b ⊎ ((a ≡ w) × (b ≡ u)))
    → IsLabelling net flow' labels
labels_kept net flow flow' labels u w h down sinks new = record {
  len = h.len;
  sinks = λ v l room. h.sinks v l (omega (arith, room, sinks v l));
  arcs = λ a b step. elim (new a b step) [
    | inl before ↦ h.arcs a b before
    | inr back ↦ let ea = ap (slice_index labels) back.0 in let eb = ap (slice_index labels) back.1 in omega (arith, ea, eb, down)
  ];
}

pub forward_new : (net : Network) (flow : Flow) (k y : ℕ) → slice_index flow.arcs k < (arc_at net k).capacity → slice_index flow.arcs k ≤ y
    → (a b : ℕ) → IsResidual net (record { arcs = set flow.arcs k y; sinks = flow.sinks }) a b
    → IsResidual net flow a b ⊎ ((a ≡ (arc_at net k).to) × (b ≡ (arc_at net k).from))
forward_new net flow k y room up a b (i, l, choice) = elim (cases_eq i k) [
  | inl same ↦ elim choice [
    | inl forward ↦ inl (k, rw same at l, inl (ap (λ j. (arc_at net j).from) (sym same) ∙ forward.0, ap (λ j. (arc_at net j).to) (sym same) ∙ forward.1, room))
    | inr back ↦ inr (sym (ap (λ j. (arc_at net j).to) (sym same) ∙ back.0), sym (ap (λ j. (arc_at net j).from) (sym same) ∙ back.1))
  ]
  | inr other ↦ inl (i, l, rw (get_or-set_other flow.arcs k i y 0 other) at choice)
]

pub back_new : (net : Network) (flow : Flow) (k y : ℕ) → 0 < slice_index flow.arcs k
    → (a b : ℕ) → IsResidual net (record { arcs = set flow.arcs k y; sinks = flow.sinks }) a b
    → IsResidual net flow a b ⊎ ((a ≡ (arc_at net k).from) × (b ≡ (arc_at net k).to))
back_new net flow k y some a b (i, l, choice) = elim (cases_eq i k) [
  | inl same ↦ elim choice [
    | inl forward ↦ inr (sym (ap (λ j. (arc_at net j).from) (sym same) ∙ forward.0), sym (ap (λ j. (arc_at net j).to) (sym same) ∙ forward.1))
    | inr back ↦ inl (k, rw same at l, inr (ap (λ j. (arc_at net j).to) (sym same) ∙ back.0, ap (λ j. (arc_at net j).from) (sym same) ∙ back.1, some))
  ]
  | inr other ↦ inl (i, l, rw (get_or-set_other flow.arcs k i y 0 other) at choice)
]

-- ---- the measure

less_times : (e z c : ℕ) → z ≤ e → (e - z) * c + z * c ≡ e * c
less_times e z c h = grind arith

more_times : (e z c : ℕ) → (e + z) * c ≡ e * c + z * c
more_times e z c = grind arith

one_more_times : (z d : ℕ) → z * (d + 1 + 1) ≡ z * (d + 1) + z
one_more_times z d = grind arith

-- a write to one number of the list
pub height_set : (net : Network) (kept labels : List ℕ) (u y : ℕ) → u < nodes net → length kept ≡ nodes net
    → excess_height net (set kept u y) labels + slice_index kept u * (slice_index labels u + 1) ≡ excess_height net kept labels + y * (slice_index labels u + 1)
height_set net kept labels u y l e =
    let here : slice_index (set kept u y) u ≡ y = get_or-set_same kept u y 0 (omega arith) in
    let change = sum_below-change (nodes net) u (λ v. slice_index kept v * (slice_index labels v + 1)) (λ v. slice_index (set kept u y) v * (slice_index labels v + 1)) l
    (λ i h ne. ap (λ q. q * (slice_index labels i + 1)) (sym (get_or-set_other kept u i y 0 ne))) in
    omega (arith, change, ap (λ q. q * (slice_index labels u + 1)) here)

pub move_lowers : (net : Network) (kept labels : List ℕ) (u w z : ℕ) → u < nodes net → w < nodes net → u ≢ w → length kept ≡ nodes net
    → z ≤ slice_index kept u → 0 < z → slice_index labels u ≡ slice_index labels w + 1
    → work_left net (moved kept u w z) labels < work_left net kept labels
move_lowers net kept labels u w z lu lw ne len le some down =
    let first = height_set net kept labels u (slice_index kept u - z) lu len in
    let second = height_set net (set kept u (slice_index kept u - z)) labels w (slice_index kept w + z) lw (length-set kept u (slice_index kept u - z) ∙ len) in
    let same : slice_index (set kept u (slice_index kept u - z)) w ≡ slice_index kept w = get_or-set_other kept u w (slice_index kept u - z) 0 (λ e. ne (sym e)) in
    let e1 = less_times (slice_index kept u) z (slice_index labels u + 1) le in
    let e2 = more_times (slice_index kept w) z (slice_index labels w + 1) in
    let e3 = one_more_times z (slice_index labels w) in
    let e4 : z * (slice_index labels u + 1) ≡ z * (slice_index labels w + 1 + 1) = ap (λ q. z * (q + 1)) down in
    let e5 = ap (λ q. q * (slice_index labels w + 1)) same in
    omega (arith, first, second, e1, e2, e3, e4, e5)

-- a gift to the sink lowers the height
pub give_lowers : (net : Network) (kept labels : List ℕ) (u z : ℕ) → u < nodes net → length kept ≡ nodes net
    → z ≤ slice_index kept u → 0 < z → work_left net (set kept u (slice_index kept u - z)) labels < work_left net kept labels
give_lowers net kept labels u z l len le some =
    let first = height_set net kept labels u (slice_index kept u - z) l len in
    let e1 = less_times (slice_index kept u) z (slice_index labels u + 1) le in
    let e2 : 0 < z * (slice_index labels u + 1) = grind arith in
    omega (arith, first, e1, e2)

pub relabel_lowers : (e g d j t k : ℕ) → e < k → 0 < j → g * k + e * (d + j + 1) < (g + j) * k + e * (d + 1)
relabel_lowers e g d j t k h p =
    let step : e * j < k * j = grind arith in
    grind (arith)
