-- A loop over the places of a node, at each of which the node at the other end may be labelled.
use Rattle.std.proofs.Common.{◌≡◌, ℕ, ◌+◌, ◌<◌, ◌≤◌, Bool, true, false, List, length, slice_index, inl, inr, refl, sym, ◌∙◌, ap, arith}
use Rattle.std.proofs.lemmas.Bool.{cases_lt, cases_Bool}
use Rattle.flow_network.specs.Progress.{top_label}
use Rattle.sink_distances.specs.Search.{Search, search_label, IsNextLabel, Grows}
use Rattle.sink_distances.proofs.Order.{grows_more, grows_falls}
use Rattle.block_events.specs.declared.direction.Direction.{Direction}
use Rattle.block_events.specs.Directions.{IsDirection, near, far, opposite}
use Rattle.block_events.specs.States.{lane_at}
use Rattle.block_events.proofs.Lanes.{near_opposite, far_opposite, opposite_twice, border_opposite}
use Rattle.block_net.specs.Whole.{Whole, node_block, slot, is_outer, state_shown, StandsAt, IsPlaced}
use Rattle.global_relabel.specs.Search.{HasResidualLane, AreNeighboursLabelled}

-- what grew for one reason grew for each that follows from it
pub grows_because : (label : ℕ) (P Q : ℕ → Type 0) (s t : Search) → ((v : ℕ) → P v → Q v) → Grows label P s t → Grows label Q s t
grows_because label P Q s t follows g = record {
  order = g.order;
  below = g.below;
  len = g.len;
  more = g.more;
  kept = g.kept;
  labels = λ v l. elim (g.labels v l) [
    | inl same ↦ inl same
    | inr new ↦ inr (new.0, new.1, follows v new.2)
  ];
}

-- what did not change grew
pub grows_none : (label : ℕ) (P : ℕ → Type 0) (s : Search) → IsNextLabel label s → Grows label P s s
grows_none label P s ready = record {
  order = ready.order;
  below = ready.below;
  len = refl;
  more = omega arith;
  kept = λ i l. refl;
  labels = λ v l. inl refl;
}

-- the places of node u before j were seen: where the opposite direction can carry more, the far
-- node is labelled
pub record IsSeen (w : Whole) (leaves : Bool) (u label j : ℕ) (old new : Search) : Type 0 where
  pub grows : Grows label (HasResidualLane w.net (state_shown w).lanes u) old new
  pub marked : (x : Direction) → IsDirection w.net x → near w.net x ≡ u → is_outer w x ≡ leaves → slot w x < j
      → 0 < (lane_at (state_shown w).lanes (opposite x)).residual
      → search_label new (far w.net x) ≤ label

pub seen_none : (w : Whole) (leaves : Bool) (u label j : ℕ) (s : Search) → IsNextLabel label s
    → ((x : Direction) → IsDirection w.net x → near w.net x ≡ u → is_outer w x ≡ leaves → j ≤ slot w x) → IsSeen w leaves u label j s s
seen_none w leaves u label j s ready floor = record {
  grows = grows_none label (HasResidualLane w.net (state_shown w).lanes u) s ready;
  marked = λ x l at out low some. absurd (omega (arith, low, floor x l at out));
}

-- one more place is seen, of a direction whose far node is v and whose opposite direction can carry
-- r
pub seen_more : (w : Whole) (leaves : Bool) (u label j v r : ℕ) (s t t' : Search) (x : Direction) → IsPlaced w → IsSeen w leaves u label j s t
    → label ≤ top_label (length t.labels) → StandsAt w leaves u j x → v ≡ far w.net x → r ≡ (lane_at (state_shown w).lanes (opposite x)).residual
    → Grows label (λ n. (n ≡ v) × (0 < r)) t t' → (0 < r → search_label t' v ≤ label) → IsSeen w leaves u label (j + 1) s t'
seen_more w leaves u label j v r s t t' x placed before fits stands end can g marked =
    let P : ℕ → Type 0 = λ n. (n ≡ v) × (0 < r) in
    let Q : ℕ → Type 0 = HasResidualLane w.net (state_shown w).lanes u in
    record {
      grows = grows_more label Q s t t' before.grows (grows_because label P Q t t' (λ n why.
          (opposite x, stands.direction, near_opposite w.net x ∙ (sym end ∙ sym why.0), far_opposite w.net x ∙ stands.near, omega (arith, why.1, can))) g);
      marked = λ y l at out low some. elim (cases_lt (slot w y) j) [
        | inl less ↦ omega (arith, before.marked y l at out less some, grows_falls label P t t' g fits (far w.net y))
        | inr last ↦
            let same : y ≡ x = placed.apart y x l stands.direction (out ∙ sym stands.outer) (ap (node_block w) (at ∙ sym stands.near)) (omega (arith, last, low, stands.slot)) in
            let some' : 0 < r = omega (arith, some, can, ap (λ (z : Direction). (lane_at (state_shown w).lanes (opposite z)).residual) same) in
            let here : far w.net y ≡ v = ap (far w.net) same ∙ sym end in
            omega (arith, marked some', ap (search_label t') here)
      ];
    }

-- all places are seen
pub seen_all : (w : Whole) (leaves : Bool) (u label j : ℕ) (s t : Search) → IsSeen w leaves u label j s t
    → ((x : Direction) → IsDirection w.net x → near w.net x ≡ u → is_outer w x ≡ leaves → slot w x < j) → AreNeighboursLabelled w leaves u label t.labels
seen_all w leaves u label j s t seen high x l at out some =
    let y = opposite x in
    let leaves_it : near w.net y ≡ u = near_opposite w.net x ∙ at in
    let out' : is_outer w y ≡ leaves = border_opposite w.net (length w.blocks) x ∙ out in
    let can : 0 < (lane_at (state_shown w).lanes (opposite y)).residual =
    omega (arith, some, ap (λ (z : Direction). (lane_at (state_shown w).lanes z).residual) (opposite_twice x)) in
    omega (arith, seen.marked y l leaves_it out' (high y l leaves_it out') can, ap (search_label t) (far_opposite w.net x))

-- the directions from the node's block and those from others are all
pub both_marked : (w : Whole) (u label : ℕ) (between labels : List ℕ) → AreNeighboursLabelled w false u label between → AreNeighboursLabelled w true u label labels
    → ((v : ℕ) → slice_index labels v ≤ slice_index between v)
    → (v : ℕ) → HasResidualLane w.net (state_shown w).lanes u v → slice_index labels v ≤ label
both_marked w u label between labels inner outer falls v (x, l, at_v, at_u, some) = elim (cases_Bool (is_outer w x)) [
  | inl out ↦ omega (arith, outer x l at_u out some, ap (slice_index labels) at_v)
  | inr within ↦ omega (arith, inner x l at_u within some, ap (slice_index between) at_v, falls v)
]
