use Rattle.std.specs.Prelude.{◌≡◌, ◌≢◌, ℕ, ◌+◌, ◌<◌, ◌≤◌, ◌⊎◌, ◌==◌, List, [], length}
use Rattle.std.specs.Prelude.{slice_index, sum_by}
use Rattle.sums.specs.Sums.{count_if}
use Rattle.flow_network.specs.Cut.{Network, nodes}
use Rattle.flow_network.specs.Preflow.{Flow, IsResidual, ReachesIn}
use Rattle.flow_network.specs.Progress.{top_label, top}
use Rattle.sink_distances.specs.Distances.{IsExactLabel}

-- labels, and the labelled nodes in the order in which they were found: the first `count` of a list
pub record Search : Type 0 where
  pub labels : List ℕ
  pub order : List ℕ
  pub count : ℕ

abbrev pub found_of : List ℕ → List ℕ → ℕ → Search
found_of labels order count = record { labels = labels; order = order; count = count }

abbrev pub search_label : Search → ℕ → ℕ
search_label found v = slice_index found.labels v

abbrev pub node_at : Search → ℕ → ℕ
node_at found i = slice_index found.order i

-- how many nodes have no label
abbrev pub count_unlabelled : Search → ℕ
count_unlabelled found = sum_by
    (λ label. count_if (label == top_label (length found.labels)) 1) found.labels

-- the order lists nodes that have a label, each once and by rising labels, and leaves out at most
-- those of label 0
pub record IsOrder (found : Search) : Type 0 where
  pub order_len : length found.order ≡ length found.labels
  pub room : found.count + count_unlabelled found ≤ length found.labels
  pub places : (i : ℕ) → i < found.count → node_at found i < length found.labels
  pub short : (i : ℕ) → i < found.count → search_label found (node_at found i) ≤ i + 1
  pub once : (i j : ℕ) → i < found.count → j < found.count → node_at found i ≡ node_at found j
      → i ≡ j
  pub listed : (v : ℕ) → v < length found.labels → search_label found v ≢ 0
      → (search_label found v ≡ top_label (length found.labels))
      ⊎ ((i : ℕ) × (i < found.count) × (node_at found i ≡ v))
  pub rising : (i j : ℕ) → i ≤ j → j < found.count
      → search_label found (node_at found i) ≤ search_label found (node_at found j)

-- a node stands among the first so many of an order
abbrev pub StandsAmong : List ℕ → ℕ → ℕ → Type 0
StandsAmong order count v = (i : ℕ) × (i < count) × (slice_index order i ≡ v)

-- so does each node whose label is below a limit and not 0
abbrev pub ListsAllBelow : Network → List ℕ → ℕ → List ℕ → ℕ → Type 0
ListsAllBelow net labels limit order count = (v : ℕ) → v < nodes net → slice_index labels v ≢ 0
    → slice_index labels v < limit → StandsAmong order count v

-- no label in the order is above this one
abbrev pub IsAtMost : ℕ → Search → Type 0
IsAtMost label found = (i : ℕ) → i < found.count → search_label found (node_at found i) ≤ label

-- this label may be given next
pub record IsNextLabel (label : ℕ) (found : Search) : Type 0 where
  pub order : IsOrder found
  pub below : IsAtMost label found
  pub next : label ≤ found.count + 1

-- each label in the order is this one from a place on
abbrev pub IsLevelFrom : ℕ → ℕ → Search → Type 0
IsLevelFrom label first found =
    (i : ℕ) → first ≤ i → i < found.count → search_label found (node_at found i) ≡ label

-- some nodes that had no label have got this one, each for a reason, and stand last in the order
pub record Grows (label : ℕ) (IsNext : ℕ → Type 0) (old new : Search) : Type 0 where
  pub order : IsOrder new
  pub below : IsAtMost label new
  pub len : length new.labels ≡ length old.labels
  pub more : old.count ≤ new.count
  pub kept : (i : ℕ) → i < old.count → node_at new i ≡ node_at old i
  pub labels : (v : ℕ) → v < length old.labels
      → (search_label new v ≡ search_label old v)
      ⊎ ((search_label old v ≡ top_label (length old.labels))
      × (search_label new v ≡ label) × IsNext v)

-- the nodes that have a residual direction to w, where the arcs carry these amounts
abbrev pub IsBefore : Network → List ℕ → ℕ → ℕ → Type 0
IsBefore net carried w v = IsResidual net (record { arcs = carried; sinks = [] }) v w

-- those that have one to a node in the order from a place on
abbrev pub IsBeforeFrom : Network → List ℕ → ℕ → Search → ℕ → Type 0
IsBeforeFrom net carried first found v =
    (i : ℕ) × (first ≤ i) × (i < found.count) × IsBefore net carried (node_at found i) v

-- the first places of a list are the nodes below v that can give the sink more, in their order
pub record AreRoomy (rooms : List ℕ) (v count : ℕ) (listed : List ℕ) : Type 0 where
  pub few : count ≤ v
  pub each : (i : ℕ) → i < count
      → (slice_index listed i < v) × (0 < slice_index rooms (slice_index listed i))
  pub rising : (i j : ℕ) → i < j → j < count → slice_index listed i < slice_index listed j
  pub all : (u : ℕ) → u < v → 0 < slice_index rooms u
      → (i : ℕ) × (i < count) × (slice_index listed i ≡ u)

-- of the nodes that can give the sink more those below v have label 1, and some of the others
pub record AreStarts (net : Network) (rooms : List ℕ) (v : ℕ) (found : Search) : Type 0 where
  pub len : length found.labels ≡ nodes net
  pub order : IsOrder found
  pub below : IsAtMost 1 found
  pub leads : (u : ℕ) → u < nodes net
      → (search_label found u ≡ top net)
      ⊎ ((search_label found u ≡ 1) × (0 < slice_index rooms u))
  pub sinks : (u : ℕ) → u < v → u < nodes net → 0 < slice_index rooms u
      → search_label found u ≤ 1

-- each node is without a label, or has the label 0
abbrev pub AreUnlabelledOrZero : Network → List ℕ → Type 0
AreUnlabelledOrZero net labels =
    (v : ℕ) → v < nodes net → (slice_index labels v ≡ 0) ⊎ (slice_index labels v ≡ top net)

-- starts as those, but that the nodes of label 0 have kept it
pub record AreStartsButZeros (net : Network) (rooms old : List ℕ) (v : ℕ)
    (found : Search) : Type 0 where
  pub len : length found.labels ≡ nodes net
  pub order : IsOrder found
  pub below : IsAtMost 1 found
  pub zeros : (u : ℕ) → u < nodes net → slice_index old u ≡ 0 → search_label found u ≡ 0
  pub leads : (u : ℕ) → u < nodes net → slice_index old u ≢ 0
      → (search_label found u ≡ top net)
      ⊎ ((search_label found u ≡ 1) × (0 < slice_index rooms u))
  pub sinks : (u : ℕ) → u < v → u < nodes net → 0 < slice_index rooms u
      → search_label found u ≤ 1

-- labels of a search that may have ended early, where those that were 0 still are. Of the others
-- those below the limit are lengths of paths; those of nodes that can give the sink more, and of
-- nodes with a residual direction to one whose label is more than 1 below the limit, are right; and
-- all are where the limit is the top label
pub record AreDistancesUpTo (net : Network) (flow : Flow) (limit : ℕ)
    (old found : List ℕ) : Type 0 where
  pub len : length found ≡ nodes net
  pub fits : limit ≤ top net
  pub zeros : (v : ℕ) → v < nodes net → slice_index old v ≡ 0 → slice_index found v ≡ 0
  pub leads : (v : ℕ) → v < nodes net → slice_index old v ≢ 0 → slice_index found v < limit
      → ReachesIn net flow (slice_index found v) v
  pub sinks : (v : ℕ) → v < nodes net → slice_index flow.sinks v < slice_index net.sinks v
      → slice_index found v ≤ 1
  pub falls : (v w : ℕ) → IsResidual net flow v w → slice_index found w + 1 < limit
      → slice_index found v ≤ slice_index found w + 1
  pub full : limit ≡ top net → (v : ℕ) → v < nodes net → slice_index old v ≢ 0
      → IsExactLabel net flow v (slice_index found v)
