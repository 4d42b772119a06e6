use Rattle.std.specs.Prelude.{◌≡◌, ◌≢◌, ◌⊎◌, ℕ, zero, suc, ◌+◌, ◌<◌, ◌≤◌, List, length, slice_index}
use Rattle.std.specs.Prelude.{All, Contains}
use Rattle.flow_network.specs.Cut.{Network, nodes}
use Rattle.flow_network.specs.Preflow.{Flow, flow_by, sink_flows, AreRooms, IsResidual}
use Rattle.flow_network.specs.Progress.{top, IsLabelledPreflow, work_left}
use Rattle.sink_distances.specs.Distances.{AreZerosUnreached}
use Rattle.sink_distances.specs.Rows.{head_at, residual_at, carried_flow, IsPlace, IsRows}
use Rattle.plain_cut.specs.declared.work.Work.{Work}

-- the flow of the work
abbrev pub work_flow : Network → Work → Flow
work_flow net w = flow_by (carried_flow w.rows) (sink_flows net w.rooms.items)

-- a path of this many residual directions, the last of them to the sink, leads on from v, and each
-- node behind v has the label 0
abbrev pub LeadsByZeros : Network → Flow → List ℕ → ℕ → ℕ → Type 0
LeadsByZeros net flow labels zero v = ⊥
LeadsByZeros net flow labels (suc zero) v =
    (v < nodes net) × (slice_index flow.sinks v < slice_index net.sinks v)
LeadsByZeros net flow labels (suc (suc d)) v =
    (w : ℕ) × IsResidual net flow v w × (slice_index labels w ≡ 0)
    × LeadsByZeros net flow labels (suc d) w

-- the nodes of label 0 count as the sink: none has excess, no residual direction leads to one from
-- another node, and each reaches the sink along such nodes
pub record CountAsSink (net : Network) (flow : Flow) (kept labels : List ℕ) : Type 0 where
  pub spent : (v : ℕ) → v < nodes net → slice_index labels v ≡ 0 → slice_index kept v ≡ 0
  pub unreached : AreZerosUnreached net flow labels
  pub leads : (v : ℕ) → v < nodes net → slice_index labels v ≡ 0
      → (d : ℕ) × LeadsByZeros net flow labels d v

-- a preflow with its excess, rows that show it, rooms for what the sink can still get, labels that
-- fit it, of which 0 counts as the sink, and a queue of nodes
pub record IsWork (net : Network) (w : Work) : Type 0 where
  pub sound : IsLabelledPreflow net (work_flow net w) w.excess.items w.labels.items
  pub zeros : CountAsSink net (work_flow net w) w.excess.items w.labels.items
  pub shown : IsRows net w.rows
  pub rooms : AreRooms net w.rooms.items
  pub queue : All (λ v. v < nodes net) w.queue.items

-- all labels are 1, which fit every preflow
pub record IsUnlabelled (net : Network) (w : Work) : Type 0 where
  pub work : IsWork net w
  pub labels : (v : ℕ) → v < nodes net → slice_index w.labels.items v ≡ 1

-- what each push and each new label lowers
abbrev pub work_measure : Network → Work → ℕ
work_measure net w = work_left net w.excess.items w.labels.items

-- each node with excess whose label is below the limit, but for one, is queued
abbrev pub IsQueuedBut : Network → ℕ → ℕ → Work → Type 0
IsQueuedBut net limit but w = (v : ℕ) → v < nodes net → v ≢ but → 0 < slice_index w.excess.items v
    → slice_index w.labels.items v < limit → Contains w.queue.items v

-- no node whose label is below the limit has excess
abbrev pub HasNoExcessBelow : Network → ℕ → Work → Type 0
HasNoExcessBelow net limit w =
    (v : ℕ) → v < nodes net → slice_index w.labels.items v < limit
    → slice_index w.excess.items v ≡ 0

-- no node whose label is below the top has excess
abbrev pub HasNoActiveNode : Network → Work → Type 0
HasNoActiveNode net w = HasNoExcessBelow net (top net) w

-- a push or a new label at a node: less is left, also of what new labels lower and count; at most
-- one more node is queued, and none is forgotten
pub record IsStep (net : Network) (but : ℕ) (old new : Work) : Type 0 where
  pub work : IsWork net new
  pub lower : work_measure net new < work_measure net old
  pub counted : work_measure net new + new.relabels ≤ work_measure net old + old.relabels
  pub queue : length new.queue.items ≤ length old.queue.items + 1
  pub queued : (limit : ℕ) → IsQueuedBut net limit but old → IsQueuedBut net limit but new

-- steps at a node, maybe none: less is left by as many as were queued
pub record IsSteps (net : Network) (but : ℕ) (old new : Work) : Type 0 where
  pub work : IsWork net new
  pub fall : work_measure net new ≤ work_measure net old
  pub lower : work_measure net new + length new.queue.items
      ≤ work_measure net old + length old.queue.items
  pub counted : work_measure net new + new.relabels ≤ work_measure net old + old.relabels
  pub queued : (limit : ℕ) → IsQueuedBut net limit but old → IsQueuedBut net limit but new

-- no residual direction of the node leads to a lower label
pub record IsLowest (net : Network) (w : Work) (v least : ℕ) : Type 0 where
  pub fits : least ≤ top net
  pub sinks : 0 < slice_index w.rooms.items v → least ≤ 1
  pub row : (p : ℕ) → IsPlace w.rows v p → 0 < residual_at w.rows p
      → least ≤ slice_index w.labels.items (head_at w.rows p) + 1

-- no residual direction of the node leads down
pub record IsStuck (w : Work) (v : ℕ) : Type 0 where
  pub sinks : slice_index w.rooms.items v ≡ 0
  pub row : (p : ℕ) → IsPlace w.rows v p → 0 < residual_at w.rows p
      → slice_index w.labels.items v ≤ slice_index w.labels.items (head_at w.rows p)

-- pushes of a node along directions: the labels, the gifts to the sink and the ends of directions
-- stay, and its excess does not grow
pub record IsPush (v : ℕ) (old new : Work) : Type 0 where
  pub labels : new.labels.items ≡ old.labels.items
  pub sinks : new.rooms.items ≡ old.rooms.items
  pub starts : new.rows.starts.items ≡ old.rows.starts.items
  pub ends : new.rows.ends.items ≡ old.rows.ends.items
  pub heads : (p : ℕ) → head_at new.rows p ≡ head_at old.rows p
  pub excess : slice_index new.excess.items v ≤ slice_index old.excess.items v

-- no other direction of the node than that at p can carry more or less than before
abbrev pub ChangesOnly : ℕ → ℕ → Work → Work → Type 0
ChangesOnly v p old new =
    (q : ℕ) → q ≢ p → IsPlace old.rows v q → residual_at new.rows q ≡ residual_at old.rows q

-- no direction of the node but those at places from the first to before the last can carry more or
-- less than before
abbrev pub ChangesAmong : ℕ → ℕ → ℕ → Work → Work → Type 0
ChangesAmong v first last old new = (q : ℕ) → (q < first) ⊎ (last ≤ q) → IsPlace old.rows v q
    → residual_at new.rows q ≡ residual_at old.rows q

-- where the node has excess left, its direction at p is used up or does not lead down
abbrev pub IsSpent : Work → ℕ → ℕ → Type 0
IsSpent w v p =
    0 < slice_index w.excess.items v → 0 < residual_at w.rows p
    → slice_index w.labels.items v ≤ slice_index w.labels.items (head_at w.rows p)

-- labels that did not fall, and all else as it was
pub record IsRaised (net : Network) (old new : Work) : Type 0 where
  pub work : IsWork net new
  pub fall : work_measure net new ≤ work_measure net old
  pub labels : (v : ℕ) → v < nodes net
      → slice_index old.labels.items v ≤ slice_index new.labels.items v
  pub excess : new.excess.items ≡ old.excess.items
  pub queue : new.queue.items ≡ old.queue.items

-- pushes at any nodes: no more is left, whatever is queued, and the labels stay
pub record IsWave (net : Network) (old new : Work) : Type 0 where
  pub work : IsWork net new
  pub labels : new.labels.items ≡ old.labels.items
  pub fall : work_measure net new ≤ work_measure net old
  pub counted : work_measure net new + new.relabels ≤ work_measure net old + old.relabels

-- the work at the start of a phase: of the nodes whose label is below the limit none with excess is
-- forgotten, and the others stand aside
pub record IsPhaseStart (net : Network) (limit : ℕ) (old new : Work) : Type 0 where
  pub work : IsWork net new
  pub counted : work_measure net new + new.relabels ≤ work_measure net old
  pub queued : IsQueuedBut net limit (nodes net) new
  pub aside : All (λ v. slice_index new.labels.items v < limit) new.queue.items
