-- Nets and cuts (Ford, Fulkerson 1956; Boykov, Veksler, Zabih 2001, section 3).
use Rattle.std.specs.Prelude.{◌≡◌, ℕ, ◌+◌, ◌<◌, ◌≤◌, Bool, true, false, not, ◌&&◌, List, length}
use Rattle.std.specs.Prelude.{slice_index, slice_index_or, sum, sum_by, All}
use Rattle.std.specs.Simd.Lanes.{zip2}
use Rattle.sums.specs.Sums.{sum_below, count_if}
use Rattle.flow_network.specs.declared.arc.Arc.{Arc}
use Rattle.flow_network.specs.Limits.{node_limit, capacity_limit}

-- a net: of each node what the source can send it and what it can send the sink, and the arcs
pub record Network : Type 0 where
  pub sources : List ℕ
  pub sinks : List ℕ
  pub arcs : List Arc

-- the net of these lists
abbrev pub network_of : List ℕ → List ℕ → List Arc → Network
network_of sources sinks arcs = record { sources = sources; sinks = sinks; arcs = arcs }

-- how many nodes
abbrev pub nodes : Network → ℕ
nodes net = length net.sources

-- the set of nodes that a list of bits tells
abbrev pub set_of : List Bool → ℕ → Bool
set_of bits v = slice_index_or bits v false

-- does the arc lead from outside the set into it?
abbrev pub enters : (ℕ → Bool) → Arc → Bool
enters side arc = side arc.to && not (side arc.from)

-- the capacity of a cut, told by its set of nodes on the sink's side: what the source can send the
-- nodes in the set, what the nodes outside can send the sink, and what can enter the set by arcs
abbrev pub capacity_of : Network → (ℕ → Bool) → ℕ
capacity_of net side =
    sum_below (nodes net) (λ v. count_if (side v) (slice_index net.sources v)) +
    sum_below (nodes net) (λ v. count_if (not (side v)) (slice_index net.sinks v)) +
    sum_by (λ arc. count_if (enters side arc) arc.capacity) net.arcs

-- no set of nodes has a lower capacity
abbrev pub IsLeastCut : Network → (ℕ → Bool) → Type 0
IsLeastCut net side = (other : ℕ → Bool) → capacity_of net side ≤ capacity_of net other

-- each node below n of the one set is in the other
abbrev pub LiesWithin : ℕ → (ℕ → Bool) → (ℕ → Bool) → Type 0
LiesWithin n side other = (v : ℕ) → v < n → side v ≡ true → other v ≡ true

-- a least cut, and within each least cut
pub record IsSmallestLeastCut (net : Network) (side : ℕ → Bool) : Type 0 where
  pub least : IsLeastCut net side
  pub smallest : (other : ℕ → Bool) → IsLeastCut net other → LiesWithin (nodes net) side other

-- the arc leads between nodes below n
pub record IsArc (n : ℕ) (arc : Arc) : Type 0 where
  pub from : arc.from < n
  pub to : arc.to < n

-- all capacities together
abbrev pub total_capacity : Network → ℕ
total_capacity net = sum net.sources + sum net.sinks + sum_by (λ arc. arc.capacity) net.arcs

-- what is true of every net: a number for each node in both lists, arcs between nodes, and the
-- limits
pub record IsNet (net : Network) : Type 0 where
  pub same : length net.sinks ≡ length net.sources
  pub count : length net.sources ≤ node_limit
  pub arcs : All (IsArc (length net.sources)) net.arcs
  pub total : total_capacity net ≤ capacity_limit

-- the net in which each node can send the sink so much more
abbrev pub with_larger_sinks : Network → List ℕ → Network
with_larger_sinks net more =
    network_of net.sources (zip2 (λ sink extra. sink + extra) net.sinks more) net.arcs

-- a number for each node, and the net stays within the limits with so much more
pub record AreExtras (net : Network) (more : List ℕ) : Type 0 where
  pub len : length more ≡ nodes net
  pub fits : IsNet (with_larger_sinks net more)
