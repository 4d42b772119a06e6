-- A search expands a level at a time.
use Rattle.std.proofs.Common.{◌≡◌, ℕ, suc, ◌+◌, ◌<◌, ◌≤◌, inl, inr, length, refl, sym, ◌∙◌, ap, subst, arith}
use Rattle.std.proofs.lemmas.Bool.{cases_lt}
use Rattle.flow_network.specs.Cut.{Network}
use Rattle.flow_network.specs.Preflow.{Flow, IsResidual, ReachesIn}
use Rattle.flow_network.specs.Progress.{top_label}
use Rattle.sink_distances.specs.declared.rows.Rows.{Rows}
use Rattle.sink_distances.specs.Rows.{carried_flow}
use Rattle.sink_distances.specs.Search.{Search, search_label, node_at, IsOrder, IsNextLabel, Grows, IsBefore, IsBeforeFrom, IsLevelFrom}
use Rattle.sink_distances.proofs.Laws.{reaches_one_more}
use Rattle.sink_distances.proofs.Order.{listed_labelled, grows_more, grows_falls, grows_stays}
use Rattle.sink_distances.proofs.Searching.{IsSearchedBut, searched_leads}
use Rattle.sink_distances.proofs.Seeing.{grows_for}

-- nodes that came behind those of a level have got the label that was given
pub grows_level : (label first : ℕ) (IsNext : ℕ → Type 0) (s t : Search) → IsOrder s → Grows label IsNext s t → first < s.count
    → 0 < search_label s (node_at s first) → IsLevelFrom label s.count t
grows_level label first IsNext s t o g some high i low l =
    let v = node_at t i in
    let lv : v < length s.labels = omega (arith, g.order.places i l, g.len) in
    let start = ap (search_label t) (g.kept first some) ∙ grows_stays label IsNext s t o g first some in
    let above = g.order.rising first i (omega (arith, some, low)) l in
    elim (g.labels v lv) [
      | inl same ↦ elim (o.listed v lv (λ none. omega (arith, above, start, high, same, none))) [
        | inl top ↦ absurd (listed_labelled t g.order i l (omega (arith, same, top, g.len)))
        | inr place ↦
            let again = g.order.once place.0 i (omega (arith, place.1, g.more)) l (g.kept place.0 place.1 ∙ place.2) in
            absurd (omega (arith, again, place.1, low))
      ]
      | inr new ↦ new.1
    ]

-- ---- the nodes of a level in turn

-- those at the places from the first to before p were expanded
pub record IsExpanded (net : Network) (rows : Rows) (label first p : ℕ) (old new : Search) : Type 0 where
  pub grows : Grows label (IsBeforeFrom net (carried_flow rows) first old) old new
  pub marked : (i v : ℕ) → first ≤ i → i < p → IsBefore net (carried_flow rows) (node_at old i) v → search_label new v ≤ label

pub expanded_none : (net : Network) (rows : Rows) (label first : ℕ) (s : Search) → IsNextLabel label s → IsExpanded net rows label first first s s
expanded_none net rows label first s ready = record {
  grows = record {
    order = ready.order;
    below = ready.below;
    len = refl;
    more = omega arith;
    kept = λ i l. refl;
    labels = λ v l. inl refl;
  };
  marked = λ i v low l. absurd (omega (arith, low, l));
}

pub expanded_more : (net : Network) (rows : Rows) (label first p w : ℕ) (s t u : Search) → IsExpanded net rows label first p s t
    → label ≤ top_label (length t.labels) → first ≤ p → p < s.count → w ≡ node_at t p
    → Grows label (IsBefore net (carried_flow rows) w) t u → ((v : ℕ) → IsBefore net (carried_flow rows) w v → search_label u v ≤ label)
    → IsExpanded net rows label first (p + 1) s u
expanded_more net rows label first p w s t u before fits low l at g marked =
    let carried = carried_flow rows in
    let here : w ≡ node_at s p = at ∙ before.grows.kept p l in
    record {
      grows = grows_more label (IsBeforeFrom net carried first s) s t u before.grows
          (grows_for label (IsBefore net carried w) (IsBeforeFrom net carried first s) t u (λ v step. (p, low, l, rw here at step)) g);
      marked = λ i v from li step. elim (cases_lt i p) [
        | inl less ↦ omega (arith, before.marked i v from less step, grows_falls label (IsBefore net carried w) t u g fits v)
        | inr last ↦
            let same : i ≡ p = omega (arith, li, last) in
            let there : node_at s i ≡ w = ap (node_at s) same ∙ sym here in
            marked v (rw there at step)
      ];
    }

-- ---- the search after a level

-- the nodes that have a residual direction to one in the order from a place on
abbrev IsStepFrom : Network → Flow → ℕ → Search → ℕ → Type 0
IsStepFrom net flow next s v = (i : ℕ) × (next ≤ i) × (i < s.count) × IsResidual net flow v (node_at s i)

pub searched_level_but : (net : Network) (flow : Flow) (IsZero : ℕ → Type 0) (next level : ℕ) (s t : Search) → IsSearchedBut net flow IsZero next s
    → next < s.count → IsLevelFrom level next s → Grows (level + 1) (IsStepFrom net flow next s) s t
    → ((v : ℕ) → IsStepFrom net flow next s v → search_label t v ≤ level + 1)
    → ((v w : ℕ) → IsResidual net flow v w → IsZero w → IsZero v) → level + 1 ≤ top_label (length s.labels) → IsSearchedBut net flow IsZero s.count t
searched_level_but net flow IsZero next level s t h some at_level g marked unreached fits =
    let IsNext : ℕ → Type 0 = IsStepFrom net flow next s in
    let falls = grows_falls (level + 1) IsNext s t g fits in
    let at : (i : ℕ) → i < s.count → search_label t (node_at t i) ≡ search_label s (node_at s i) =
    λ i li. ap (search_label t) (g.kept i li) ∙ grows_stays (level + 1) IsNext s t h.order g i li in
    record {
      len = g.len ∙ h.len;
      order = g.order;
      within = g.more;
      span = λ more i li. omega (
        arith,
        g.below i li,
        at next some,
        at_level next (omega arith) some,
        g.order.rising next s.count (omega (arith, some)) more,
      );
      zeros = λ v lv is. omega (arith, h.zeros v lv is, falls v);
      leads = λ v lv off. elim (g.labels v (omega (arith, lv, h.len))) [
        | inl same ↦ rw same (h.leads v lv off)
        | inr new ↦
            let (i, low, li, step) = new.2 in
            let w = node_at s i in
            let path = reaches_one_more net flow v w (search_label s w) step (searched_leads net flow IsZero next s h i li (λ is. off (unreached v w step is))) in
            let P : ℕ → Type 0 = λ d. ReachesIn net flow d v in
            inr (subst P (let e : suc (search_label s w) ≡ search_label t v = omega (arith, new.1, at_level i low li) in e) path)
      ];
      sinks = λ v lv room. omega (arith, h.sinks v lv room, falls v);
      closed = λ i li v step.
          let step' : IsResidual net flow v (node_at s i) = rw (g.kept i li) at step in
          elim (cases_lt i next) [
            | inl before ↦ omega (arith, h.closed i before v step', falls v, at i li)
            | inr after ↦ omega (arith, marked v (i, after, li, step'), at i li, at_level i after li)
          ];
    }
