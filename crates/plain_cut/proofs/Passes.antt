-- What a push leaves at its direction, and what pushes along other directions keep.
use Rattle.std.proofs.Common.{◌≡◌, ◌≢◌, ℕ, ◌+◌, ◌-◌, ◌<◌, ◌≤◌, inl, inr, List, length, get_or, set, slice_index, sym, ◌∙◌, ap, arith, get_or-set_same, get_or-set_other}
use Rattle.std.proofs.lemmas.Bool.{cases_eq}
use Rattle.std.proofs.lemmas.List.{get_or_read}
use Rattle.std.proofs.lemmas.List.Sums.{get_or-le-sum_by}
use Rattle.flow_network.specs.declared.arc.Arc.{Arc}
use Rattle.flow_network.specs.Cut.{Network, nodes, IsNet, total_capacity}
use Rattle.flow_network.specs.Limits.{capacity_limit}
use Rattle.flow_network.proofs.Push.{moved}
use Rattle.sink_distances.specs.declared.rows.Rows.{Rows}
use Rattle.sink_distances.specs.Rows.{head_at, opposite_at, residual_at, first_at, IsPlace, IsPlaceOf, IsRows, IsSent}
use Rattle.sink_distances.proofs.Showing.{directed}
use Rattle.plain_cut.specs.declared.work.Work.{Work}
use Rattle.plain_cut.specs.State.{IsPush, ChangesOnly, ChangesAmong, IsSpent, IsStuck}

-- ---- what a direction and its opposite can carry

pair_of : (net : Network) (rows : Rows) (v p : ℕ) → IsRows net rows → IsPlaceOf net rows v p
    → residual_at rows p + residual_at rows (opposite_at rows p) ≤ total_capacity net
pair_of net rows v p r (k, l, inl (at, end)) =
    let a = r.arcs k l in
    let e = ap (opposite_at rows) at in
    omega (arith, ap (residual_at rows) at, ap (residual_at rows) e, a.capacity, get_or-le-sum_by (λ (arc : Arc). arc.capacity) net.arcs k (record { from = 0; to = 0; capacity = 0 }) l)
pair_of net rows v p r (k, l, inr (at, end)) =
    let a = r.arcs k l in
    let e : opposite_at rows p ≡ first_at rows k = ap (opposite_at rows) at ∙ a.turn in
    omega (arith, ap (residual_at rows) at, ap (residual_at rows) e, a.capacity, get_or-le-sum_by (λ (arc : Arc). arc.capacity) net.arcs k (record { from = 0; to = 0; capacity = 0 }) l)

pub pair-le-limit : (net : Network) (rows : Rows) (v p : ℕ) → IsNet net → IsRows net rows → v < nodes net → IsPlace rows v p
    → residual_at rows p + residual_at rows (opposite_at rows p) ≤ capacity_limit
pair-le-limit net rows v p h r l place = omega (arith, pair_of net rows v p r (r.each v p l place), h.total)

-- the label of the node to which a direction leads, as it is read
pub label_read : (labels : List ℕ) (at head x n : ℕ) → at ≡ head → head < n → length labels ≡ n → x ≡ get_or labels at x → x ≡ slice_index labels head
label_read labels at head x n same inside len is = get_or_read labels at x (omega (arith, same, inside, len)) is 0 ∙ ap (slice_index labels) same

-- ---- a push along a direction

moved_at : (kept : List ℕ) (u w z : ℕ) → u ≢ w → u < length kept → slice_index (moved kept u w z) u ≡ slice_index kept u - z
moved_at kept u w z ne l =
    get_or-set_other (set kept u (slice_index kept u - z)) w u (slice_index kept w + z) 0 ne ∙ get_or-set_same kept u (slice_index kept u - z) 0 l

-- what the giver has left
pub left_at : (es es' : List ℕ) (u w z : ℕ) → u ≢ w → u < length es → es' ≡ moved es u w z → slice_index es' u ≡ slice_index es u - z
left_at es es' u w z ne l ee = ap (λ (xs : List ℕ). slice_index xs u) ee ∙ moved_at es u w z ne l

pub along_push : (old new : Work) (u w p z : ℕ) → u ≢ w → u < length old.excess.items → IsSent old.rows new.rows p z
    → new.labels.items ≡ old.labels.items → new.rooms.items ≡ old.rooms.items → new.excess.items ≡ moved old.excess.items u w z
    → IsPush u old new
along_push old new u w p z ne l sent el es ee = record {
  labels = el;
  sinks = es;
  starts = sent.starts;
  ends = sent.ends;
  heads = sent.heads;
  excess = omega (arith, left_at old.excess.items new.excess.items u w z ne l ee);
}

-- another direction of the node is not the opposite of one that leads to another node
pub along_others : (net : Network) (old new : Rows) (v p z : ℕ) → IsNet net → IsRows net old → v < nodes net → IsPlace old v p
    → v ≢ head_at old p → IsSent old new p z → (q : ℕ) → q ≢ p → IsPlace old v q → residual_at new q ≡ residual_at old q
along_others net old new v p z h r l place ne sent q off at =
    let d = directed net old v p h r l place in
    let e = directed net old v q h r l at in
    sent.others q off (λ same. ne (sym e.tail ∙ (ap (λ (x : ℕ). head_at old (opposite_at old x)) same ∙ ap (head_at old) d.turn)))

-- ---- pushes one after the other

pub push_more : (v : ℕ) (a b c : Work) → IsPush v a b → IsPush v b c → IsPush v a c
push_more v a b c h p = record {
  labels = p.labels ∙ h.labels;
  sinks = p.sinks ∙ h.sinks;
  starts = p.starts ∙ h.starts;
  ends = p.ends ∙ h.ends;
  heads = λ q. p.heads q ∙ h.heads q;
  excess = omega (arith, h.excess, p.excess);
}

-- a place of the row stays one
pub push_place : (v : ℕ) (old new : Work) (p : ℕ) → IsPush v old new → IsPlace old.rows v p → IsPlace new.rows v p
push_place v old new p h (low, high) =
    (omega (arith, ap (λ (xs : List ℕ). slice_index xs v) h.starts, low), omega (arith, ap (λ (xs : List ℕ). slice_index xs v) h.ends, high))

pub place_push : (v : ℕ) (old new : Work) (p : ℕ) → IsPush v old new → IsPlace new.rows v p → IsPlace old.rows v p
place_push v old new p h (low, high) =
    (omega (arith, ap (λ (xs : List ℕ). slice_index xs v) h.starts, low), omega (arith, ap (λ (xs : List ℕ). slice_index xs v) h.ends, high))

-- a direction that is spent stays so while others are pushed along
spent_kept : (old new : Work) (v q : ℕ) → IsPush v old new → residual_at new.rows q ≡ residual_at old.rows q → IsSpent old v q → IsSpent new v q
spent_kept old new v q p same spent some room =
    let l1 = ap (λ (xs : List ℕ). slice_index xs v) p.labels in
    let l2 = ap (λ (xs : List ℕ). slice_index xs (head_at new.rows q)) p.labels in
    let l3 = ap (slice_index old.labels.items) (p.heads q) in
    omega (arith, spent (omega (arith, some, p.excess)) (omega (arith, same, room)), l1, l2, l3)

-- one more direction of the node
pub spent_more : (old new : Work) (v p q : ℕ) → IsPush v old new → ChangesOnly v p old new → IsPlace old.rows v q
    → IsSpent new v p → IsSpent old v q → IsSpent new v q
spent_more old new v p q push only place here before = elim (cases_eq q p) [
  | inl same ↦ rw same here
  | inr other ↦ spent_kept old new v q push (only q other place) before
]

-- one more direction of those that may change
pub among_more : (v first last p : ℕ) (old now new : Work) → IsPush v old now → first ≤ p → p < last
    → ChangesAmong v first last old now → ChangesOnly v p now new → ChangesAmong v first last old new
among_more v first last p old now new push low high before only q out place =
    let off : q ≢ p = elim out [
      | inl under ↦ λ same. absurd (omega (arith, under, low, same))
      | inr over ↦ λ same. absurd (omega (arith, over, high, same))
    ] in
    only q off (push_place v old now q push place) ∙ before q out place

-- the directions behind the first pushes are spent still after pushes along those before them
pub spent_round : (v from q : ℕ) (old now new : Work) (first : ℕ) → IsPush v old now → IsPush v now new
    → ChangesAmong v first from now new → from ≤ q → IsPlace old.rows v q → IsSpent now v q → IsSpent new v q
spent_round v from q old now new first before push only over place spent =
    spent_kept now new v q push (only q (inr over) (push_place v old now q before place)) spent

-- ---- all pushes of the node are made

pub row_stuck : (given new : Work) (v : ℕ) → (0 < slice_index given.excess.items v → slice_index given.rooms.items v ≡ 0)
    → IsPush v given new → ((p : ℕ) → IsPlace given.rows v p → IsSpent new v p) → 0 < slice_index new.excess.items v → IsStuck new v
row_stuck given new v full push spent some = record {
  sinks = omega (arith, full (omega (arith, some, push.excess)), ap (λ (xs : List ℕ). slice_index xs v) push.sinks);
  row = λ p place room. spent p (place_push v given new p push place) some room;
}
