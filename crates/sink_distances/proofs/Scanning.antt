-- A loop over the arcs of a node, each of which may have one end labelled.
use Rattle.std.proofs.Common.{◌≡◌, ℕ, ◌+◌, ◌<◌, ◌≤◌, inl, inr, List, length, slice_index, refl, ◌∙◌, ap, arith}
use Rattle.std.proofs.lemmas.Bool.{cases_lt}
use Rattle.counting_sort.specs.declared.Groups.{Groups}
use Rattle.flow_network.specs.Cut.{Network, nodes}
use Rattle.flow_network.specs.Preflow.{arc_at}
use Rattle.sink_distances.specs.declared.adjacency.Adjacency.{Adjacency}
use Rattle.sink_distances.specs.Adjacency.{IsAdjacency}
use Rattle.flow_network.specs.Progress.{top_label}
use Rattle.sink_distances.specs.Search.{Search, search_label, Grows, IsBefore}
use Rattle.sink_distances.proofs.Ends.{into_place, into_found, out_place, out_found}
use Rattle.sink_distances.proofs.Order.{grows_more, grows_falls}

-- the places of the node's group from its start to before p were seen: of each arc that is free the
-- end is labelled
pub record IsScanned (g : Groups) (end : ℕ → ℕ) (IsFree IsNext : ℕ → Type 0) (w label p : ℕ) (old new : Search) : Type 0 where
  pub grows : Grows label IsNext old new
  pub marked : (q : ℕ) → slice_index g.starts.items w ≤ q → q < p → IsFree (slice_index g.places.items q)
      → search_label new (end (slice_index g.places.items q)) ≤ label

-- one more place is seen
pub scanned_more : (g : Groups) (end : ℕ → ℕ) (IsFree IsNext : ℕ → Type 0) (w label p k : ℕ) (s t u : Search)
    → IsScanned g end IsFree IsNext w label p s t → label ≤ top_label (length t.labels) → k ≡ slice_index g.places.items p
    → Grows label IsNext t u → (IsFree k → search_label u (end k) ≤ label) → IsScanned g end IsFree IsNext w label (p + 1) s u
scanned_more g end IsFree IsNext w label p k s t u before fits at g' marked = record {
  grows = grows_more label IsNext s t u before.grows g';
  marked = λ q low high free. elim (cases_lt q p) [
    | inl less ↦ omega (arith, before.marked q low less free, grows_falls label IsNext t u g' fits (end (slice_index g.places.items q)))
    | inr last ↦
        let same : q ≡ p = omega arith in
        let here : slice_index g.places.items q ≡ k = rw (same, at) refl in
        let told = ap (λ j. search_label u (end j)) here in
        omega (arith, told, marked (rw here at free))
  ];
}

-- ---- the arcs that enter a node

-- of the arcs that enter w, those at places before p were seen
abbrev pub AreTailsScanned : Network → Adjacency → List ℕ → ℕ → ℕ → ℕ → Search → Search → Type 0
AreTailsScanned net a carried w label p =
    IsScanned a.into (λ k. (arc_at net k).from) (λ k. slice_index carried k < (arc_at net k).capacity)
    (IsBefore net carried w) w label p

pub tails_more : (net : Network) (a : Adjacency) (carried : List ℕ) (w label p k : ℕ) (s t u : Search) → IsAdjacency net a
    → w < nodes net → slice_index a.into.starts.items w ≤ p → p < slice_index a.into.starts.items (w + 1)
    → AreTailsScanned net a carried w label p s t → label ≤ top_label (length t.labels) → k ≡ slice_index a.into.places.items p
    → Grows label (IsBefore net carried (arc_at net k).to) t u
    → (slice_index carried k < (arc_at net k).capacity → search_label u (arc_at net k).from ≤ label)
    → AreTailsScanned net a carried w label (p + 1) s u
tails_more net a carried w label p k s t u is node low high before fits at g marked =
    let end : (arc_at net k).to ≡ w = ap (λ j. (arc_at net j).to) at ∙ (into_place net a is w p node low high).1 in
    scanned_more a.into (λ j. (arc_at net j).from) (λ j. slice_index carried j < (arc_at net j).capacity) (IsBefore net carried w) w label p k s t u before fits at (rw end at g) marked

pub tails_all : (net : Network) (a : Adjacency) (carried : List ℕ) (w label p : ℕ) (s t : Search) → IsAdjacency net a
    → AreTailsScanned net a carried w label p s t → slice_index a.into.starts.items (w + 1) ≤ p
    → (k : ℕ) → k < length net.arcs → (arc_at net k).to ≡ w → slice_index carried k < (arc_at net k).capacity → search_label t (arc_at net k).from ≤ label
tails_all net a carried w label p s t is scanned done k l end free =
    let place = into_found net a is w k l end in
    let told = rw place.3 at (scanned.marked place.0 place.1 (omega (arith, place.2, done))) in
    told free

-- ---- the arcs that leave a node

-- of the arcs that leave w, those at places before p were seen
abbrev pub AreHeadsScanned : Network → Adjacency → List ℕ → ℕ → ℕ → ℕ → Search → Search → Type 0
AreHeadsScanned net a carried w label p =
    IsScanned a.out (λ k. (arc_at net k).to) (λ k. 0 < slice_index carried k)
    (IsBefore net carried w) w label p

pub heads_more : (net : Network) (a : Adjacency) (carried : List ℕ) (w label p k : ℕ) (s t u : Search) → IsAdjacency net a
    → w < nodes net → slice_index a.out.starts.items w ≤ p → p < slice_index a.out.starts.items (w + 1)
    → AreHeadsScanned net a carried w label p s t → label ≤ top_label (length t.labels) → k ≡ slice_index a.out.places.items p
    → Grows label (IsBefore net carried (arc_at net k).from) t u
    → (0 < slice_index carried k → search_label u (arc_at net k).to ≤ label)
    → AreHeadsScanned net a carried w label (p + 1) s u
heads_more net a carried w label p k s t u is node low high before fits at g marked =
    let end : (arc_at net k).from ≡ w = ap (λ j. (arc_at net j).from) at ∙ (out_place net a is w p node low high).1 in
    scanned_more a.out (λ j. (arc_at net j).to) (λ j. 0 < slice_index carried j) (IsBefore net carried w) w label p k s t u before fits at (rw end at g) marked

pub heads_all : (net : Network) (a : Adjacency) (carried : List ℕ) (w label p : ℕ) (s t : Search) → IsAdjacency net a
    → AreHeadsScanned net a carried w label p s t → slice_index a.out.starts.items (w + 1) ≤ p
    → (k : ℕ) → k < length net.arcs → (arc_at net k).from ≡ w → 0 < slice_index carried k → search_label t (arc_at net k).to ≤ label
heads_all net a carried w label p s t is scanned done k l end free =
    let place = out_found net a is w k l end in
    let told = rw place.3 at (scanned.marked place.0 place.1 (omega (arith, place.2, done))) in
    told free

-- the residual directions to a node, by the arcs that enter and that leave it
pub both_scanned : (net : Network) (carried labels between : List ℕ) (w label : ℕ)
    → ((k : ℕ) → k < length net.arcs → (arc_at net k).to ≡ w → slice_index carried k < (arc_at net k).capacity → slice_index between (arc_at net k).from ≤ label)
    → ((k : ℕ) → k < length net.arcs → (arc_at net k).from ≡ w → 0 < slice_index carried k → slice_index labels (arc_at net k).to ≤ label)
    → ((v : ℕ) → slice_index labels v ≤ slice_index between v)
    → (v : ℕ) → IsBefore net carried w v → slice_index labels v ≤ label
both_scanned net carried labels between w label tails heads falls v (k, l, inl forward) =
    let same = ap (slice_index between) forward.0 in
    omega (arith, same, tails k l forward.1 forward.2, falls v)
both_scanned net carried labels between w label tails heads falls v (k, l, inr back) =
    let same = ap (slice_index labels) back.0 in
    omega (arith, same, heads k l back.1 back.2)
