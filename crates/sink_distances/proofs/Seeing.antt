-- A loop over the row of a node, of whose directions each may have its head labelled.
use Rattle.std.proofs.Common.{◌≡◌, ℕ, ◌+◌, ◌<◌, ◌≤◌, inl, inr, length, ap, arith}
use Rattle.std.proofs.lemmas.Bool.{cases_lt}
use Rattle.flow_network.specs.Cut.{Network}
use Rattle.flow_network.specs.Progress.{top_label}
use Rattle.sink_distances.specs.declared.rows.Rows.{Rows}
use Rattle.sink_distances.specs.Rows.{head_at, opposite_at, residual_at, start_at, end_at, carried_flow, IsRows}
use Rattle.sink_distances.specs.Search.{Search, search_label, Grows, IsBefore}
use Rattle.sink_distances.proofs.Order.{grows_more, grows_falls}
use Rattle.sink_distances.proofs.Showing.{before_place}

-- what grows for one reason grows for each that follows from it
pub grows_for : (label : ℕ) (P Q : ℕ → Type 0) (s t : Search) → ((v : ℕ) → P v → Q v) → Grows label P s t → Grows label Q s t
grows_for label P Q s t so g = record {
  order = g.order;
  below = g.below;
  len = g.len;
  more = g.more;
  kept = g.kept;
  labels = λ v l. elim (g.labels v l) [ inl same ↦ inl same | inr new ↦ inr (new.0, new.1, so v new.2) ];
}

-- the places of the node's row before p were seen
pub record IsSeen (net : Network) (rows : Rows) (w label p : ℕ) (old new : Search) : Type 0 where
  pub grows : Grows label (IsBefore net (carried_flow rows) w) old new
  pub marked : (q : ℕ) → start_at rows w ≤ q → q < p → 0 < residual_at rows (opposite_at rows q) → search_label new (head_at rows q) ≤ label

-- one more is seen
pub seen_more : (net : Network) (rows : Rows) (w label p : ℕ) (s t u : Search) → IsSeen net rows w label p s t
    → label ≤ top_label (length t.labels) → Grows label (IsBefore net (carried_flow rows) w) t u
    → (0 < residual_at rows (opposite_at rows p) → search_label u (head_at rows p) ≤ label) → IsSeen net rows w label (p + 1) s u
seen_more net rows w label p s t u before fits g marked = record {
  grows = grows_more label (IsBefore net (carried_flow rows) w) s t u before.grows g;
  marked = λ q low high some. elim (cases_lt q p) [
    | inl less ↦ omega (arith, before.marked q low less some, grows_falls label (IsBefore net (carried_flow rows) w) t u g fits (head_at rows q))
    | inr last ↦
        let same : q ≡ p = omega (arith, high, last) in
        rw same (marked (rw same at some))
  ];
}

-- one more is seen that has nothing to label
pub seen_none : (net : Network) (rows : Rows) (w label p : ℕ) (s t : Search) → IsSeen net rows w label p s t
    → residual_at rows (opposite_at rows p) ≤ 0 → IsSeen net rows w label (p + 1) s t
seen_none net rows w label p s t before none = record {
  grows = before.grows;
  marked = λ q low high some. elim (cases_lt q p) [
    | inl less ↦ before.marked q low less some
    | inr last ↦
        let same : q ≡ p = omega (arith, high, last) in
        absurd (omega (arith, none, rw same at some))
  ];
}

-- all of the row were seen
pub seen_all : (net : Network) (rows : Rows) (w label p : ℕ) (s t : Search) → IsRows net rows → IsSeen net rows w label p s t
    → end_at rows w ≤ p → (v : ℕ) → IsBefore net (carried_flow rows) w v → search_label t v ≤ label
seen_all net rows w label p s t r seen done v before =
    let (q, place, head, some) = before_place net rows w v r before in
    omega (arith, ap (search_label t) head, seen.marked q place.0 (omega (arith, place.1, done)) some)
