-- Preflows, residual directions and certified cuts (Goldberg, Tarjan 1988, "A new approach to the
-- maximum-flow problem", section 2).
use Rattle.std.specs.Prelude.{◌≡◌, ℕ, zero, suc, ◌+◌, ◌-◌, ◌<◌, ◌≤◌, ◌⊎◌, Bool, true, ◌==◌, List}
use Rattle.std.specs.Prelude.{length, slice_index, slice_index_or}
use Rattle.std.specs.Simd.Lanes.{zip2}
use Rattle.sums.specs.Sums.{sum_below, count_if}
use Rattle.flow_network.specs.declared.arc.Arc.{Arc}
use Rattle.flow_network.specs.Cut.{Network, nodes, capacity_of}

-- the arc at a place of the list
abbrev pub arc_at : Network → ℕ → Arc
arc_at net k = slice_index_or net.arcs k (record { from = 0; to = 0; capacity = 0 })

-- what each arc carries, and what each node gives the sink
pub record Flow : Type 0 where
  pub arcs : List ℕ
  pub sinks : List ℕ

-- the flow of these two lists
abbrev pub flow_by : List ℕ → List ℕ → Flow
flow_by arcs sinks = record { arcs = arcs; sinks = sinks }

-- no arc carries more than it can
abbrev pub IsWithinArcs : Network → List ℕ → Type 0
IsWithinArcs net flow = (k : ℕ) → k < length net.arcs → slice_index flow k ≤ (arc_at net k).capacity

-- no node gives the sink more than it can
abbrev pub IsWithinSinks : Network → List ℕ → Type 0
IsWithinSinks net flow = (v : ℕ) → v < nodes net → slice_index flow v ≤ slice_index net.sinks v

-- of each node what it can still give the sink, at most what it can at all
pub record AreRooms (net : Network) (rooms : List ℕ) : Type 0 where
  pub len : length rooms ≡ nodes net
  pub within : (v : ℕ) → v < nodes net → slice_index rooms v ≤ slice_index net.sinks v

-- what each node gives the sink, told by what it can still give it
abbrev pub sink_flows : Network → List ℕ → List ℕ
sink_flows net rooms = zip2 (λ sink room. sink - room) net.sinks rooms

-- what comes to a node by arcs
abbrev pub inflow : Network → Flow → ℕ → ℕ
inflow net flow v =
    sum_below (length net.arcs) (λ k. count_if ((arc_at net k).to == v) (slice_index flow.arcs k))

-- what leaves a node by arcs
abbrev pub outflow : Network → Flow → ℕ → ℕ
outflow net flow v =
    sum_below (length net.arcs) (λ k. count_if ((arc_at net k).from == v) (slice_index flow.arcs k))

-- what a node gets: the arcs from the source are always full
abbrev pub gets : Network → Flow → ℕ → ℕ
gets net flow v = slice_index net.sources v + inflow net flow v

-- what a node passes on, to other nodes and to the sink
abbrev pub total_outflow : Network → Flow → ℕ → ℕ
total_outflow net flow v = outflow net flow v + slice_index flow.sinks v

-- what a node gets and does not pass on; in a preflow no node passes on more than it gets
abbrev pub excess : Network → Flow → ℕ → ℕ
excess net flow v = gets net flow v - total_outflow net flow v

-- what the sink gets
abbrev pub sink_gets : Network → Flow → ℕ
sink_gets net flow = sum_below (nodes net) (slice_index flow.sinks)

-- a number for each arc and for each node, within the capacities, and no node passes on more than
-- it gets
pub record IsPreflow (net : Network) (flow : Flow) : Type 0 where
  pub arcs_len : length flow.arcs ≡ length net.arcs
  pub sinks_len : length flow.sinks ≡ nodes net
  pub arcs : IsWithinArcs net flow.arcs
  pub sinks : IsWithinSinks net flow.sinks
  pub covered : (v : ℕ) → v < nodes net → total_outflow net flow v ≤ gets net flow v

-- by a preflow the sink gets what the cut's capacity is, and that is the value
pub record IsCertified (net : Network) (flow : Flow) (side : ℕ → Bool) (value : ℕ) : Type 0 where
  pub preflow : IsPreflow net flow
  pub full : sink_gets net flow ≡ capacity_of net side
  pub told : value ≡ capacity_of net side

-- from v to w an arc can carry more, or what an arc carries from w to v can be taken back
abbrev pub IsResidual : Network → Flow → ℕ → ℕ → Type 0
IsResidual net flow v w =
    (k : ℕ) × (k < length net.arcs) ×
    ((((arc_at net k).from ≡ v) × ((arc_at net k).to ≡ w) ×
    (slice_index flow.arcs k < (arc_at net k).capacity))
    ⊎ (((arc_at net k).to ≡ v) × ((arc_at net k).from ≡ w) × (0 < slice_index flow.arcs k)))

-- a path of this many residual directions, the last of them to the sink, leads on from v
abbrev pub ReachesIn : Network → Flow → ℕ → ℕ → Type 0
ReachesIn net flow zero v = ⊥
ReachesIn net flow (suc zero) v =
    (v < nodes net) × (slice_index flow.sinks v < slice_index net.sinks v)
ReachesIn net flow (suc (suc d)) v =
    (w : ℕ) × IsResidual net flow v w × ReachesIn net flow (suc d) w

-- a path of residual directions leads from v to the sink
abbrev pub Reaches : Network → Flow → ℕ → Type 0
Reaches net flow v = (d : ℕ) × ReachesIn net flow d v

-- the set is the set of nodes that reach the sink
pub record IsReach (net : Network) (flow : Flow) (side : ℕ → Bool) : Type 0 where
  pub sound : (v : ℕ) → v < nodes net → side v ≡ true → Reaches net flow v
  pub complete : (v : ℕ) → v < nodes net → Reaches net flow v → side v ≡ true
