-- Labels of a search that ends early.
use Rattle.std.proofs.Common.{◌≡◌, ◌≢◌, ℕ, ◌+◌, ◌<◌, ◌≤◌, inl, inr, List, length, max, min, slice_index, ap, subst, arith}
use Rattle.std.proofs.lemmas.Bool.{cases_lt, cases_eq}
use Rattle.flow_network.specs.Cut.{Network, nodes, IsNet}
use Rattle.flow_network.specs.Preflow.{Flow, IsResidual, ReachesIn}
use Rattle.flow_network.specs.Labels.{IsLabelling}
use Rattle.flow_network.specs.Progress.{top}
use Rattle.flow_network.proofs.Moves.{label-le-path}
use Rattle.sink_distances.specs.Distances.{IsExactLabel, AreDistancesButZeros, AreExactBelow, AreZerosUnreached}
use Rattle.sink_distances.specs.Laws.{AreLow}
use Rattle.sink_distances.specs.Search.{Search, search_label, node_at, AreDistancesUpTo, StandsAmong}
use Rattle.sink_distances.proofs.Laws.{residual_nodes, rises_to, exact-le-top}
use Rattle.sink_distances.proofs.Order.{count-le-length, label-le-count}
use Rattle.sink_distances.proofs.Searching.{IsSearchedBut, near_nodes, searched_exact_but}

-- where the search stands: the next node's label is one below the limit, or none is left and the
-- limit is the top label
pub data IsAt (net : Network) (next limit : ℕ) (s : Search) : Type 0 where
  Before : next < s.count → limit ≡ search_label s (node_at s next) + 1 → IsAt net next limit s
  Done : s.count ≤ next → limit ≡ top net → IsAt net next limit s

-- the nodes whose old label is 0
abbrev pub is_zero : List ℕ → ℕ → Type 0
is_zero old v = slice_index old v ≡ 0

-- a search that passes those over
abbrev pub IsSearchedBeside : Network → Flow → List ℕ → ℕ → Search → Type 0
IsSearchedBeside net flow old next s = IsSearchedBut net flow (is_zero old) next s

limit-le-top : (net : Network) (flow : Flow) (old : List ℕ) (next limit : ℕ) (s : Search) → IsSearchedBeside net flow old next s → IsAt net next limit s → limit ≤ top net
limit-le-top net flow old next limit s h (Before some at) = omega (arith, at, label-le-count s h.order next some, count-le-length s h.order, h.len)
limit-le-top net flow old next limit s h (Done none at) = omega (arith, at)

-- a node whose label is more than 1 below the limit was expanded
expanded : (net : Network) (flow : Flow) (old : List ℕ) (next limit i : ℕ) (s : Search) → IsSearchedBeside net flow old next s → IsAt net next limit s
    → i < s.count → search_label s (node_at s i) + 1 < limit → i < next
expanded net flow old next limit i s h (Before some at) l low = elim (cases_lt i next) [
  | inl before ↦ before
  | inr after ↦ absurd (omega (arith, h.order.rising next i after l, at, low))
]
expanded net flow old next limit i s h (Done none at) l low = omega (arith, l, none)

near_falls : (net : Network) (flow : Flow) (old : List ℕ) (next limit : ℕ) (s : Search) → IsNet net → AreZerosUnreached net flow old
    → IsSearchedBeside net flow old next s → IsAt net next limit s
    → (v w : ℕ) → IsResidual net flow v w → search_label s w + 1 < limit → search_label s v ≤ search_label s w + 1
near_falls net flow old next limit s net_is unreached h at v w step low =
    let ends = residual_nodes net flow v w net_is step in
    let fits = limit-le-top net flow old next limit s h at in
    elim (cases_eq (slice_index old w) 0) [
      | inl is ↦ omega (arith, h.zeros v ends.0 (unreached v w step is))
      | inr off ↦ elim (near_nodes net flow (is_zero old) next s h w ends.1 off) [
        | inl none ↦ absurd (omega (arith, none, low, fits))
        | inr labelled ↦
            let place = labelled.1 in
            let step' : IsResidual net flow v (node_at s place.0) = rw place.2 step in
            let same = ap (search_label s) place.2 in
            omega (arith, same, h.closed place.0 (expanded net flow old next limit place.0 s h at place.1 (omega (arith, same, low))) v step')
      ]
    ]

near_full : (net : Network) (flow : Flow) (old : List ℕ) (next limit : ℕ) (s : Search) → IsNet net → AreZerosUnreached net flow old
    → IsSearchedBeside net flow old next s → IsAt net next limit s
    → limit ≡ top net → (v : ℕ) → v < nodes net → slice_index old v ≢ 0 → IsExactLabel net flow v (search_label s v)
near_full net flow old next limit s net_is unreached h (Before some at) is =
    absurd (omega (arith, at, is, label-le-count s h.order next some, count-le-length s h.order, h.len))
near_full net flow old next limit s net_is unreached h (Done none at) is = searched_exact_but net flow (is_zero old) next s net_is h none unreached

near_leads : (net : Network) (flow : Flow) (old : List ℕ) (next limit : ℕ) (s : Search) → IsSearchedBeside net flow old next s → IsAt net next limit s
    → (v : ℕ) → v < nodes net → slice_index old v ≢ 0 → search_label s v < limit → ReachesIn net flow (search_label s v) v
near_leads net flow old next limit s h at v l off low = elim (h.leads v l off) [
  | inl none ↦ absurd (omega (arith, none, low, limit-le-top net flow old next limit s h at))
  | inr path ↦ path
]

pub search_is_near : (net : Network) (flow : Flow) (old : List ℕ) (next limit : ℕ) (s : Search) → IsNet net → AreZerosUnreached net flow old
    → IsSearchedBeside net flow old next s → IsAt net next limit s → AreDistancesUpTo net flow limit old s.labels
search_is_near net flow old next limit s net_is unreached h at = record {
  len = h.len;
  fits = limit-le-top net flow old next limit s h at;
  zeros = h.zeros;
  leads = near_leads net flow old next limit s h at;
  sinks = h.sinks;
  falls = near_falls net flow old next limit s net_is unreached h at;
  full = near_full net flow old next limit s net_is unreached h at;
}

-- a node that was found below the limit stands in the order
pub found_listed : (net : Network) (flow : Flow) (old : List ℕ) (next limit : ℕ) (s : Search) → IsSearchedBeside net flow old next s → limit ≤ top net
    → (v : ℕ) → v < nodes net → slice_index s.labels v ≢ 0 → slice_index s.labels v < limit → StandsAmong s.order s.count v
found_listed net flow old next limit s h fits v l some low = elim (h.order.listed v (omega (arith, l, h.len)) some) [
  | inl none ↦ absurd (omega (arith, none, low, fits, h.len))
  | inr place ↦ place
]

-- ---- labels that are raised to it

-- each label is the higher of the old one and of what was found up to the limit
abbrev pub AreRaisedTo : Network → ℕ → List ℕ → List ℕ → List ℕ → Type 0
AreRaisedTo net limit found old new =
    (v : ℕ) → v < nodes net → slice_index new v ≡ max (slice_index old v) (min (slice_index found v) limit)

one_falls : (a b c d k : ℕ) → a ≤ b + 1 → (d + 1 < k → c ≤ d + 1) → max a (min c k) ≤ max b (min d k) + 1
one_falls a b c d k h f = elim (cases_lt (d + 1) k) [
  | inl low ↦ omega (arith, f low)
  | inr high ↦ omega arith
]

pub raised_labelling : (net : Network) (flow : Flow) (limit : ℕ) (found old new : List ℕ) → IsNet net → IsLabelling net flow old
    → AreDistancesUpTo net flow limit old found → length new ≡ nodes net → AreRaisedTo net limit found old new → IsLabelling net flow new
raised_labelling net flow limit found old new net_is fits near len told = record {
  len = len;
  sinks = λ v l room. omega (arith, told v l, fits.sinks v l room, near.sinks v l room);
  arcs = λ v w step.
      let ends = residual_nodes net flow v w net_is step in
      omega (
        arith,
        told v ends.0,
        told w ends.1,
        one_falls (slice_index old v) (slice_index old w) (slice_index found v) (slice_index found w) limit (fits.arcs v w step) (near.falls v w step),
      );
}

pub raised_low : (net : Network) (flow : Flow) (limit : ℕ) (found old new : List ℕ) → AreLow net old → AreDistancesUpTo net flow limit old found
    → AreRaisedTo net limit found old new → AreLow net new
raised_low net flow limit found old new low near told v l = omega (arith, told v l, low v l, near.fits)

-- a label that is 0 now was so before
was_zero : (net : Network) (limit : ℕ) (found old new : List ℕ) → AreRaisedTo net limit found old new → (v : ℕ) → v < nodes net
    → slice_index new v ≢ 0 → (slice_index old v ≡ 0 → slice_index found v ≡ 0) → slice_index old v ≢ 0
was_zero net limit found old new told v l off zeros none = off (omega (arith, told v l, none, zeros none))

-- a raised label below the limit is a found one, and no path is shorter
pub raised_near : (net : Network) (flow : Flow) (limit : ℕ) (found old new : List ℕ) → IsLabelling net flow old
    → AreDistancesUpTo net flow limit old found → IsLabelling net flow new → AreRaisedTo net limit found old new → AreExactBelow net flow limit new
raised_near net flow limit found old new fits near made told v l low off =
    let path = near.leads v l (was_zero net limit found old new told v l off (near.zeros v l)) (omega (arith, told v l, low)) in
    let rises = label-le-path net flow old fits (slice_index found v) v path in
    let same : slice_index found v ≡ slice_index new v = omega (arith, told v l, low, rises) in
    let P : ℕ → Type 0 = λ d. ReachesIn net flow d v in
    record {
      leads = subst P same path;
      least = λ d other. label-le-path net flow new made d v other;
    }

pub raised_exact : (net : Network) (flow : Flow) (limit : ℕ) (found old new : List ℕ) → IsLabelling net flow old → AreLow net old
    → AreDistancesUpTo net flow limit old found → length new ≡ nodes net → AreRaisedTo net limit found old new → limit ≡ top net → AreDistancesButZeros net flow new
raised_exact net flow limit found old new fits low near len told all = record {
  len = len;
  exact = λ v l off.
      let exact = near.full all v l (was_zero net limit found old new told v l off (near.zeros v l)) in
      let same : slice_index found v ≡ slice_index new v =
      omega (arith, told v l, rises_to net flow old v (slice_index found v) fits (low v l) exact, exact-le-top net flow v (slice_index found v) exact, all) in
      subst (IsExactLabel net flow v) same exact;
}

-- and 0 stays 0
pub raised_zeros : (net : Network) (flow : Flow) (limit : ℕ) (found old new : List ℕ) → AreDistancesUpTo net flow limit old found
    → AreRaisedTo net limit found old new → (v : ℕ) → v < nodes net → slice_index old v ≡ 0 → slice_index new v ≡ 0
raised_zeros net flow limit found old new near told v l none = omega (arith, told v l, none, near.zeros v l none)

-- where labels are raised to what was found, those below the limit that are not 0 were found there
pub raised_listed : (net : Network) (flow : Flow) (limit : ℕ) (found old new order : List ℕ) (count : ℕ) → AreDistancesUpTo net flow limit old found → AreRaisedTo net limit found old new
    → ((v : ℕ) → v < nodes net → slice_index found v ≢ 0 → slice_index found v < limit → StandsAmong order count v)
    → (v : ℕ) → v < nodes net → slice_index new v ≢ 0 → slice_index new v < limit → StandsAmong order count v
raised_listed net flow limit found old new order count near told listed v l some low =
    let below : slice_index found v < limit = omega (arith, told v l, low) in
    listed v l
    (λ none. elim (cases_eq (slice_index old v) 0) [
      | inl is ↦ some (omega (arith, told v l, is, none))
      | inr off ↦ subst (λ (d : ℕ). ReachesIn net flow d v) none (near.leads v l off below)
    ])
    below
