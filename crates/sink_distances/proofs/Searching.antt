-- The search keeps what makes its labels distances.
use Rattle.std.proofs.Common.{◌≡◌, ◌≢◌, ℕ, zero, suc, ◌+◌, ◌<◌, ◌≤◌, ◌⊎◌, inl, inr, List, length, replicate, slice_index, sym, ◌∙◌, ap, subst, arith}
use Rattle.std.proofs.lemmas.Bool.{cases_lt}
use Rattle.std.proofs.lemmas.List.{get_or-replicate}
use Rattle.flow_network.specs.Cut.{Network, nodes, IsNet}
use Rattle.flow_network.specs.Preflow.{Flow, flow_by, sink_flows, AreRooms, IsResidual, ReachesIn}
use Rattle.flow_network.specs.Progress.{top_label, top}
use Rattle.sink_distances.specs.Distances.{IsExactLabel, AreDistances}
use Rattle.flow_network.proofs.Given.{room_left, left_room}
use Rattle.sink_distances.specs.Search.{Search, search_label, node_at, found_of, IsOrder, IsAtMost, Grows, AreStarts, AreStartsButZeros, AreUnlabelledOrZero}
use Rattle.sink_distances.proofs.Laws.{residual_nodes, reaches_one_more}
use Rattle.sink_distances.proofs.Order.{unlabelled-le-length, count-le-length, label-le-count, listed_labelled, grows_falls, grows_stays}

-- ---- the search

-- the labels are lengths of paths, and fall by at most 1 along each residual direction to a node
-- that was expanded; those of some nodes are 0 instead, and stay so
pub record IsSearchedBut (net : Network) (flow : Flow) (IsZero : ℕ → Type 0) (next : ℕ) (found : Search) : Type 0 where
  pub len : length found.labels ≡ nodes net
  pub order : IsOrder found
  pub within : next ≤ found.count
  pub span : next < found.count → IsAtMost (search_label found (node_at found next) + 1) found
  pub zeros : (v : ℕ) → v < nodes net → IsZero v → search_label found v ≡ 0
  pub leads : (v : ℕ) → v < nodes net → (IsZero v → ⊥) → (search_label found v ≡ top net) ⊎ ReachesIn net flow (search_label found v) v
  pub sinks : (v : ℕ) → v < nodes net → slice_index flow.sinks v < slice_index net.sinks v → search_label found v ≤ 1
  pub closed : (i : ℕ) → i < next → (v : ℕ) → IsResidual net flow v (node_at found i) → search_label found v ≤ search_label found (node_at found i) + 1

-- where no node has the label 0
abbrev pub IsSearched : Network → Flow → ℕ → Search → Type 0
IsSearched net flow next found = IsSearchedBut net flow (λ v. ⊥) next found

-- before any node that can give the sink more is labelled
pub starts_begin : (net : Network) (rooms labels order : List ℕ) → length labels ≡ nodes net → length order ≡ nodes net
    → AreUnlabelledOrZero net labels → AreStartsButZeros net rooms labels 0 (found_of labels order 0)
starts_begin net rooms labels order len order_len none =
    let s = found_of labels order 0 in
    let top_of : (v : ℕ) → v < nodes net → slice_index labels v ≢ 0 → slice_index labels v ≡ top net = λ v l some. elim (none v l) [
      | inl is ↦ absurd (some is)
      | inr top ↦ top
    ] in
    record {
      len = len;
      order = record {
        order_len = order_len ∙ sym len;
        room = omega (arith, unlabelled-le-length s);
        places = λ i l. absurd (omega (arith, l));
        short = λ i l. absurd (omega (arith, l));
        once = λ i j l. absurd (omega (arith, l));
        listed = λ v l some. inl (omega (arith, top_of v (omega (arith, l, len)) some, len));
        rising = λ i j le l. absurd (omega (arith, l));
      };
      below = λ i l. absurd (omega (arith, l));
      zeros = λ v l is. is;
      leads = λ v l some. inl (top_of v l some);
      sinks = λ v l. absurd (omega (arith, l));
    }

-- where no node has a label, that is so
pub all_unlabelled : (net : Network) (n none : ℕ) (labels : List ℕ) → labels ≡ replicate n none → n ≡ nodes net → none ≡ top net
    → (v : ℕ) → v < nodes net → slice_index labels v ≡ top net
all_unlabelled net n none labels same len is v l =
    ap (λ (xs : List ℕ). slice_index xs v) same ∙ (get_or-replicate n v none 0 (omega (arith, l, len)) ∙ is)

-- and all nodes that can give the sink more are starts
pub all_starts : (net : Network) (rooms old : List ℕ) (v : ℕ) (s : Search) → AreStartsButZeros net rooms old v s
    → ((u : ℕ) → u < nodes net → slice_index old u ≡ top net) → AreStarts net rooms v s
all_starts net rooms old v s h none = record {
  len = h.len;
  order = h.order;
  below = h.below;
  leads = λ u l. h.leads u l (λ is. omega (arith, is, none u l));
  sinks = h.sinks;
}

-- a node that can still give the sink has a path of length 1
path_of_one : (net : Network) (carried rooms : List ℕ) (v label : ℕ) → IsNet net → AreRooms net rooms → v < nodes net
    → label ≡ 1 → 0 < slice_index rooms v → ReachesIn net (flow_by carried (sink_flows net rooms)) label v
path_of_one net carried rooms v label net_is r lv one some =
    let P : ℕ → Type 0 = λ d. ReachesIn net (flow_by carried (sink_flows net rooms)) d v in
    subst P (sym one) (lv, room_left net rooms v net_is r lv some)

-- the nodes that can still give the sink begin it
pub searched_begins_but : (net : Network) (carried rooms old : List ℕ) (IsZero : ℕ → Type 0) (s : Search) → IsNet net → AreRooms net rooms
    → AreStartsButZeros net rooms old (nodes net) s
    → ((v : ℕ) → v < nodes net → IsZero v → slice_index old v ≡ 0) → ((v : ℕ) → v < nodes net → (IsZero v → ⊥) → slice_index old v ≢ 0)
    → IsSearchedBut net (flow_by carried (sink_flows net rooms)) IsZero 0 s
searched_begins_but net carried rooms old IsZero s net_is r h are others = record {
  len = h.len;
  order = h.order;
  within = omega arith;
  span = λ some i li. omega (arith, h.below i li);
  zeros = λ v lv is. h.zeros v lv (are v lv is);
  leads = λ v lv off. elim (h.leads v lv (others v lv off)) [
    | inl none ↦ inl none
    | inr one ↦ inr (path_of_one net carried rooms v (search_label s v) net_is r lv one.0 one.1)
  ];
  sinks = λ v lv room. h.sinks v lv lv (left_room net rooms v net_is r lv room);
  closed = λ i li. absurd (omega (arith, li));
}

pub searched_begins : (net : Network) (carried rooms : List ℕ) (s : Search) → IsNet net → AreRooms net rooms
    → AreStarts net rooms (nodes net) s → IsSearched net (flow_by carried (sink_flows net rooms)) 0 s
searched_begins net carried rooms s net_is r h = record {
  len = h.len;
  order = h.order;
  within = omega arith;
  span = λ some i li. omega (arith, h.below i li);
  zeros = λ v lv is. absurd is;
  leads = λ v lv off. elim (h.leads v lv) [
    | inl none ↦ inl none
    | inr one ↦ inr (path_of_one net carried rooms v (search_label s v) net_is r lv one.0 one.1)
  ];
  sinks = λ v lv room. h.sinks v lv lv (left_room net rooms v net_is r lv room);
  closed = λ i li. absurd (omega (arith, li));
}

-- a node in the order has a path as long as its label
pub searched_leads : (net : Network) (flow : Flow) (IsZero : ℕ → Type 0) (next : ℕ) (s : Search) → IsSearchedBut net flow IsZero next s
    → (i : ℕ) → i < s.count → (IsZero (node_at s i) → ⊥) → ReachesIn net flow (search_label s (node_at s i)) (node_at s i)
searched_leads net flow IsZero next s h i l off = elim (h.leads (node_at s i) (omega (arith, h.order.places i l, h.len)) off) [
  | inl none ↦ absurd (listed_labelled s h.order i l (omega (arith, none, h.len)))
  | inr path ↦ path
]

-- the node at the next place is expanded
pub searched_more_but : (net : Network) (flow : Flow) (IsZero : ℕ → Type 0) (next : ℕ) (s t : Search) → IsSearchedBut net flow IsZero next s → next < s.count
    → Grows (search_label s (node_at s next) + 1) (λ v. IsResidual net flow v (node_at s next)) s t
    → ((v : ℕ) → IsResidual net flow v (node_at s next) → search_label t v ≤ search_label s (node_at s next) + 1)
    → ((v w : ℕ) → IsResidual net flow v w → IsZero w → IsZero v) → IsNet net → IsSearchedBut net flow IsZero (next + 1) t
searched_more_but net flow IsZero next s t h l g marked unreached net_is =
    let w = node_at s next in
    let IsNext : ℕ → Type 0 = λ v. IsResidual net flow v w in
    let fits : search_label s w + 1 ≤ top_label (length s.labels) = omega (arith, label-le-count s h.order next l, count-le-length s h.order) in
    let falls = grows_falls (search_label s w + 1) IsNext s t g fits in
    let at : (i : ℕ) → i < s.count → search_label t (node_at t i) ≡ search_label s (node_at s i) =
    λ i li. ap (search_label t) (g.kept i li) ∙ grows_stays (search_label s w + 1) IsNext s t h.order g i li in
    record {
      len = g.len ∙ h.len;
      order = g.order;
      within = omega (arith, l, g.more);
      span = λ some i li. omega (arith, g.below i li, at next l, g.order.rising next (next + 1) (omega arith) some);
      zeros = λ v lv is. omega (arith, h.zeros v lv is, falls v);
      leads = λ v lv off. elim (g.labels v (omega (arith, lv, h.len))) [
        | inl same ↦ rw same (h.leads v lv off)
        | inr new ↦
            let path = reaches_one_more net flow v w (search_label s w) new.2 (searched_leads net flow IsZero next s h next l (λ is. off (unreached v w new.2 is))) in
            inr (let P : ℕ → Type 0 = λ d. ReachesIn net flow d v in subst P (let e : suc (search_label s w) ≡ search_label t v = omega (arith, new.1) in e) path)
      ];
      sinks = λ v lv room. omega (arith, h.sinks v lv room, falls v);
      closed = λ i li v step. elim (cases_lt i next) [
        | inl before ↦
            let old : i < s.count = omega (arith, before, l) in
            let step' : IsResidual net flow v (node_at s i) = rw (g.kept i old) at step in
            omega (arith, h.closed i before v step', falls v, at i old)
        | inr last ↦
            let same : i ≡ next = omega arith in
            let here : node_at t i ≡ w = ap (node_at t) same ∙ g.kept next l in
            let step' : IsResidual net flow v w = rw here at step in
            let told = ap (search_label t) here in
            omega (arith, marked v step', told, grows_stays (search_label s w + 1) IsNext s t h.order g next l)
      ];
    }

pub searched_more : (net : Network) (flow : Flow) (next : ℕ) (s t : Search) → IsSearched net flow next s → next < s.count
    → Grows (search_label s (node_at s next) + 1) (λ v. IsResidual net flow v (node_at s next)) s t
    → ((v : ℕ) → IsResidual net flow v (node_at s next) → search_label t v ≤ search_label s (node_at s next) + 1)
    → IsNet net → IsSearched net flow (next + 1) t
searched_more net flow next s t h l g marked = searched_more_but net flow (λ v. ⊥) next s t h l g marked (λ v w step is. is)

-- ---- the end of the search

-- no path has the length 0
no_path_of_none : (net : Network) (flow : Flow) (v d : ℕ) → d ≡ 0 → ReachesIn net flow d v → ⊥
no_path_of_none net flow v d none path =
    let P : ℕ → Type 0 = λ d. ReachesIn net flow d v in
    subst P none path

-- a labelled node's label is at most the number of nodes
pub near_nodes : (net : Network) (flow : Flow) (IsZero : ℕ → Type 0) (next : ℕ) (s : Search) → IsSearchedBut net flow IsZero next s
    → (v : ℕ) → v < nodes net → (IsZero v → ⊥)
    → (search_label s v ≡ top net) ⊎ ((search_label s v ≤ nodes net) × ((i : ℕ) × (i < s.count) × (node_at s i ≡ v)))
near_nodes net flow IsZero next s h v l off = elim (h.leads v l off) [
  | inl none ↦ inl none
  | inr path ↦ elim (h.order.listed v (omega (arith, l, h.len)) (λ none. no_path_of_none net flow v (search_label s v) none path)) [
    | inl none ↦ inl (omega (arith, none, h.len))
    | inr place ↦
        let same = ap (search_label s) place.2 in
        inr (omega (arith, same, label-le-count s h.order place.0 place.1, count-le-length s h.order, h.len), place)
  ]
]

-- labels fall by at most 1 along each residual direction to a labelled node
searched_falls : (net : Network) (flow : Flow) (IsZero : ℕ → Type 0) (next : ℕ) (s : Search) → IsSearchedBut net flow IsZero next s → s.count ≤ next
    → (v w : ℕ) → w < nodes net → (IsZero w → ⊥) → IsResidual net flow v w → search_label s w ≤ nodes net → search_label s v ≤ search_label s w + 1
searched_falls net flow IsZero next s h done v w l off step near = elim (near_nodes net flow IsZero next s h w l off) [
  | inl none ↦ absurd (omega (arith, none, near))
  | inr labelled ↦
      let place = labelled.1 in
      let step' : IsResidual net flow v (node_at s place.0) = rw place.2 step in
      let same = ap (search_label s) place.2 in
      omega (arith, same, h.closed place.0 (omega (arith, place.1, done)) v step')
]

-- a node that reaches the sink is labelled, with at most the length of the path
searched_reached : (net : Network) (flow : Flow) (IsZero : ℕ → Type 0) (next : ℕ) (s : Search) → IsNet net → IsSearchedBut net flow IsZero next s → s.count ≤ next
    → ((v w : ℕ) → IsResidual net flow v w → IsZero w → IsZero v)
    → (d v : ℕ) → ReachesIn net flow d v → (IsZero v → ⊥) → (search_label s v ≤ nodes net) × (search_label s v ≤ d)
searched_reached net flow IsZero next s net_is h done unreached zero v path off = absurd path
searched_reached net flow IsZero next s net_is h done unreached (suc zero) v (l, room) off =
    (omega (arith, h.sinks v l room, l), h.sinks v l room)
searched_reached net flow IsZero next s net_is h done unreached (suc (suc d)) v (w, step, path) off =
    let ends = residual_nodes net flow v w net_is step in
    let off_w : IsZero w → ⊥ = λ is. off (unreached v w step is) in
    let rest = searched_reached net flow IsZero next s net_is h done unreached (suc d) w path off_w in
    let low = searched_falls net flow IsZero next s h done v w ends.1 off_w step rest.0 in
    elim (near_nodes net flow IsZero next s h v ends.0 off) [
      | inl none ↦ absurd (omega (arith, none, low, rest.0))
      | inr labelled ↦ (labelled.0, omega (arith, low, rest.1))
    ]

-- where each node in the order is expanded, the labels are exact
pub searched_exact_but : (net : Network) (flow : Flow) (IsZero : ℕ → Type 0) (next : ℕ) (s : Search) → IsNet net → IsSearchedBut net flow IsZero next s → s.count ≤ next
    → ((v w : ℕ) → IsResidual net flow v w → IsZero w → IsZero v)
    → (v : ℕ) → v < nodes net → (IsZero v → ⊥) → IsExactLabel net flow v (search_label s v)
searched_exact_but net flow IsZero next s net_is h done unreached v l off = elim (near_nodes net flow IsZero next s h v l off) [
  | inl none ↦ inr (none, λ reach. omega (arith, none, (searched_reached net flow IsZero next s net_is h done unreached reach.0 v reach.1 off).0))
  | inr labelled ↦ elim (h.leads v l off) [
    | inl none ↦ absurd (omega (arith, none, labelled.0))
    | inr path ↦ inl (
      labelled.0,
      record {
        leads = path;
        least = λ d other. (searched_reached net flow IsZero next s net_is h done unreached d v other off).1;
      },
    )
  ]
]

pub searched_exact : (net : Network) (flow : Flow) (next : ℕ) (s : Search) → IsNet net → IsSearched net flow next s → s.count ≤ next
    → AreDistances net flow s.labels
searched_exact net flow next s net_is h done = record {
  len = h.len;
  exact = λ v l. searched_exact_but net flow (λ v. ⊥) next s net_is h done (λ v w step is. is) v l (λ is. is);
}
