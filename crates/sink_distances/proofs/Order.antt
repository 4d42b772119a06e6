-- What a search keeps of its order while it labels nodes.
use Rattle.std.proofs.Common.{◌≡◌, ◌≢◌, ℕ, ◌+◌, ◌<◌, ◌≤◌, ◌⊎◌, inl, inr, Bool, true, false, ◌==◌, List, [], ◌∷◌, length, set, slice_index, sum_by, sym, ◌∙◌, ap, arith, get_or-set_same, get_or-set_other}
use Rattle.std.proofs.lemmas.Bool.{cases_lt, cases_eq}
use Rattle.std.proofs.lemmas.List.{length-set, get_or_past}
use Rattle.std.proofs.lemmas.List.Sums.{sum_by-set, sum_by-cons}
use Rattle.sums.specs.Sums.{count_if}
use Rattle.sums.proofs.SumLemmas.{counted-same, counted-other}
use Rattle.flow_network.specs.Progress.{top_label}
use Rattle.sink_distances.specs.Search.{Search, found_of, search_label, node_at, count_unlabelled, IsOrder, IsAtMost, Grows}

-- no more nodes are labelled than there are
pub count-le-length : (s : Search) → IsOrder s → s.count ≤ length s.labels
count-le-length s o = omega (arith, o.room)

-- a label in the order is at most the number of labelled nodes
pub label-le-count : (s : Search) → IsOrder s → (i : ℕ) → i < s.count → search_label s (node_at s i) ≤ s.count
label-le-count s o i l = omega (arith, o.short i l)

-- a node in the order has a label
pub listed_labelled : (s : Search) → IsOrder s → (i : ℕ) → i < s.count → search_label s (node_at s i) ≢ top_label (length s.labels)
listed_labelled s o i l e = omega (arith, label-le-count s o i l, count-le-length s o, e)

one_counted : (b : Bool) → count_if b 1 ≤ 1
one_counted true = omega arith
one_counted false = omega arith

few_counted : (labels : List ℕ) (top : ℕ) → sum_by (λ label. count_if (label == top) 1) labels ≤ length labels
few_counted [] top = omega arith
few_counted (label ∷ labels) top =
    omega (arith, sum_by-cons (λ other. count_if (other == top) 1) label labels, one_counted (label == top), few_counted labels top)

-- no more nodes are without a label than there are
pub unlabelled-le-length : (s : Search) → count_unlabelled s ≤ length s.labels
unlabelled-le-length s = few_counted s.labels (top_label (length s.labels))

-- ---- one more label

-- a node that gets a label is no more without one
fewer_unlabelled : (labels : List ℕ) (v label top : ℕ) → v < length labels → slice_index labels v ≡ top → label ≢ top
    → sum_by (λ other. count_if (other == top) 1) (set labels v label) + 1 ≡ sum_by (λ other. count_if (other == top) 1) labels
fewer_unlabelled labels v label top l none has =
    let change = sum_by-set (λ other. count_if (other == top) 1) labels v label 0 l in
    let before : count_if (slice_index labels v == top) 1 ≡ 1 = ap (λ other. count_if (other == top) 1) none ∙ counted-same top 1 in
    let after : count_if (label == top) 1 ≡ 0 = counted-other label top 1 (λ e. has (sym e)) in
    omega (arith, change, before, after)

-- the search after one more label
abbrev pub after_mark : Search → ℕ → ℕ → Search
after_mark s v label = found_of (set s.labels v label) (set s.order s.count v) (s.count + 1)

-- what is known where a node without a label gets one
pub record IsMark (s : Search) (v label : ℕ) : Type 0 where
  pub order : IsOrder s
  pub below : IsAtMost label s
  pub node : v < length s.labels
  pub none : search_label s v ≡ top_label (length s.labels)
  pub fits : label ≤ s.count + 1

mark_fewer : (s : Search) (v label : ℕ) → IsMark s v label → count_unlabelled (after_mark s v label) + 1 ≡ count_unlabelled s
mark_fewer s v label m =
    let low = count-le-length s m.order in
    let has : label ≢ top_label (length s.labels) = λ e. omega (arith, low, m.fits, e) in
    let top = ap (λ n. sum_by (λ other. count_if (other == top_label n) 1) (set s.labels v label)) (length-set s.labels v label) in
    omega (arith, top, fewer_unlabelled s.labels v label (top_label (length s.labels)) m.node m.none has)

mark_room : (s : Search) (v label : ℕ) → IsMark s v label → s.count < length s.order
mark_room s v label m = omega (arith, mark_fewer s v label m, m.order.room, m.order.order_len)

mark_here : (s : Search) (v label : ℕ) → IsMark s v label → search_label (after_mark s v label) v ≡ label
mark_here s v label m = get_or-set_same s.labels v label 0 m.node

mark_other : (s : Search) (v label u : ℕ) → u ≢ v → search_label (after_mark s v label) u ≡ search_label s u
mark_other s v label u ne = get_or-set_other s.labels v u label 0 ne

mark_last : (s : Search) (v label : ℕ) → IsMark s v label → node_at (after_mark s v label) s.count ≡ v
mark_last s v label m = get_or-set_same s.order s.count v 0 (mark_room s v label m)

mark_kept : (s : Search) (v label i : ℕ) → i < s.count → node_at (after_mark s v label) i ≡ node_at s i
mark_kept s v label i l = get_or-set_other s.order s.count i v 0 (λ e. omega (arith, l, e))

-- the label at a place of the order
mark_at : (s : Search) (v label : ℕ) → IsMark s v label → (i : ℕ) → i < s.count + 1
    → ((i < s.count) × (search_label (after_mark s v label) (node_at (after_mark s v label) i) ≡ search_label s (node_at s i)))
    ⊎ ((i ≡ s.count) × (search_label (after_mark s v label) (node_at (after_mark s v label) i) ≡ label))
mark_at s v label m i l =
    let t = after_mark s v label in
    elim (cases_lt i s.count) [
      | inl below ↦
          let other : node_at s i ≢ v = λ e. listed_labelled s m.order i below (ap (search_label s) e ∙ m.none) in
          inl (below, ap (search_label t) (mark_kept s v label i below) ∙ mark_other s v label (node_at s i) other)
      | inr last ↦
          let same : i ≡ s.count = omega arith in
          inr (same, ap (λ j. search_label t (node_at t j)) same ∙ (ap (search_label t) (mark_last s v label m) ∙ mark_here s v label m))
    ]

mark_places : (s : Search) (v label : ℕ) → IsMark s v label → (i : ℕ) → i < s.count + 1 → node_at (after_mark s v label) i < length (set s.labels v label)
mark_places s v label m i l =
    let t = after_mark s v label in
    let len = length-set s.labels v label in
    elim (cases_lt i s.count) [
      | inl below ↦ omega (arith, len, mark_kept s v label i below, m.order.places i below)
      | inr last ↦
          let same : i ≡ s.count = omega arith in
          omega (arith, len, ap (node_at t) same, mark_last s v label m, m.node)
    ]

mark_short : (s : Search) (v label : ℕ) → IsMark s v label → (i : ℕ) → i < s.count + 1
    → search_label (after_mark s v label) (node_at (after_mark s v label) i) ≤ i + 1
mark_short s v label m i l = elim (mark_at s v label m i l) [
  | inl old ↦ omega (arith, old.1, m.order.short i old.0)
  | inr new ↦ omega (arith, new.0, new.1, m.fits)
]

mark_below : (s : Search) (v label : ℕ) → IsMark s v label → IsAtMost label (after_mark s v label)
mark_below s v label m i l = elim (mark_at s v label m i l) [
  | inl old ↦ omega (arith, old.1, m.below i old.0)
  | inr new ↦ omega (arith, new.1)
]

mark_rising : (s : Search) (v label : ℕ) → IsMark s v label → (i j : ℕ) → i ≤ j → j < s.count + 1
    → search_label (after_mark s v label) (node_at (after_mark s v label) i) ≤ search_label (after_mark s v label) (node_at (after_mark s v label) j)
mark_rising s v label m i j le l = elim (mark_at s v label m j l) [
  | inl old ↦ elim (mark_at s v label m i (omega (arith, le, l))) [
    | inl first ↦ omega (arith, old.1, first.1, m.order.rising i j le old.0)
    | inr late ↦ absurd (omega (arith, le, old.0, late.0))
  ]
  | inr new ↦ omega (arith, new.1, mark_below s v label m i (omega (arith, le, l)))
]

mark_once : (s : Search) (v label : ℕ) → IsMark s v label → (i j : ℕ) → i < s.count + 1 → j < s.count + 1
    → node_at (after_mark s v label) i ≡ node_at (after_mark s v label) j → i ≡ j
mark_once s v label m i j li lj same =
    let t = after_mark s v label in
    let other : (k : ℕ) → k < s.count → node_at s k ≢ v = λ k l e. listed_labelled s m.order k l (ap (search_label s) e ∙ m.none) in
    elim (cases_lt i s.count) [
      | inl low ↦ elim (cases_lt j s.count) [
        | inl below ↦ m.order.once i j low below (sym (mark_kept s v label i low) ∙ (same ∙ mark_kept s v label j below))
        | inr last ↦
            let at : j ≡ s.count = omega (arith, last, lj) in
            absurd (other i low (sym (mark_kept s v label i low) ∙ (same ∙ (ap (node_at t) at ∙ mark_last s v label m))))
      ]
      | inr high ↦
          let here : i ≡ s.count = omega (arith, high, li) in
          elim (cases_lt j s.count) [
            | inl below ↦ absurd (other j below (sym (mark_kept s v label j below) ∙ (sym same ∙ (ap (node_at t) here ∙ mark_last s v label m))))
            | inr last ↦ omega (arith, here, last, lj)
          ]
    ]

mark_listed : (s : Search) (v label : ℕ) → IsMark s v label → (u : ℕ) → u < length (set s.labels v label)
    → search_label (after_mark s v label) u ≢ 0
    → (search_label (after_mark s v label) u ≡ top_label (length (after_mark s v label).labels))
    ⊎ ((i : ℕ) × (i < s.count + 1) × (node_at (after_mark s v label) i ≡ u))
mark_listed s v label m u l some =
    let len = length-set s.labels v label in
    elim (cases_eq u v) [
      | inl same ↦ inr (s.count, omega arith, mark_last s v label m ∙ sym same)
      | inr other ↦ elim (m.order.listed u (omega (arith, l, len)) (λ none. some (mark_other s v label u other ∙ none))) [
        | inl none ↦ inl (omega (arith, len, none, mark_other s v label u other))
        | inr place ↦ inr (place.0, omega (arith, place.1), mark_kept s v label place.0 place.1 ∙ place.2)
      ]
    ]

-- a node without a label gets one
pub grows_mark : (s : Search) (v label : ℕ) → IsMark s v label → Grows label (λ u. u ≡ v) s (after_mark s v label)
grows_mark s v label m = record {
  order = record {
    order_len = omega (arith, length-set s.labels v label, length-set s.order s.count v, m.order.order_len);
    room = omega (arith, length-set s.labels v label, mark_fewer s v label m, m.order.room);
    places = mark_places s v label m;
    short = mark_short s v label m;
    once = mark_once s v label m;
    listed = mark_listed s v label m;
    rising = mark_rising s v label m;
  };
  below = mark_below s v label m;
  len = length-set s.labels v label;
  more = omega arith;
  kept = mark_kept s v label;
  labels = λ u l. elim (cases_eq u v) [
    | inl same ↦ inr (ap (search_label s) same ∙ m.none, ap (search_label (after_mark s v label)) same ∙ mark_here s v label m, same)
    | inr other ↦ inl (mark_other s v label u other)
  ];
}

-- ---- labels in turn

-- what grows twice for the same reason has grown for it
pub grows_more : (label : ℕ) (IsNext : ℕ → Type 0) (s t u : Search) → Grows label IsNext s t → Grows label IsNext t u → Grows label IsNext s u
grows_more label IsNext s t u first then = record {
  order = then.order;
  below = then.below;
  len = then.len ∙ first.len;
  more = omega (arith, first.more, then.more);
  kept = λ i l. then.kept i (omega (arith, l, first.more)) ∙ first.kept i l;
  labels = λ v l. elim (first.labels v l) [
    | inl same ↦ elim (then.labels v (omega (arith, l, first.len))) [
      | inl again ↦ inl (again ∙ same)
      | inr new ↦ inr (omega (arith, same, new.0, first.len), new.1, new.2)
    ]
    | inr old ↦ elim (then.labels v (omega (arith, l, first.len))) [
      | inl again ↦ inr (old.0, again ∙ old.1, old.2)
      | inr new ↦ inr (old.0, new.1, new.2)
    ]
  ];
}

-- labels never rise
pub grows_falls : (label : ℕ) (IsNext : ℕ → Type 0) (s t : Search) → Grows label IsNext s t → label ≤ top_label (length s.labels)
    → (v : ℕ) → search_label t v ≤ search_label s v
grows_falls label IsNext s t g fits v = elim (cases_lt v (length s.labels)) [
  | inl l ↦ elim (g.labels v l) [
    | inl same ↦ omega (arith, same)
    | inr new ↦ omega (arith, new.0, new.1, fits)
  ]
  | inr past ↦ omega (arith, get_or_past t.labels v 0 (omega (arith, past, g.len)))
]

-- a label in the order stays
pub grows_stays : (label : ℕ) (IsNext : ℕ → Type 0) (s t : Search) → IsOrder s → Grows label IsNext s t
    → (i : ℕ) → i < s.count → search_label t (node_at s i) ≡ search_label s (node_at s i)
grows_stays label IsNext s t o g i l = elim (g.labels (node_at s i) (o.places i l)) [
  | inl same ↦ same
  | inr new ↦ absurd (listed_labelled s o i l new.0)
]
