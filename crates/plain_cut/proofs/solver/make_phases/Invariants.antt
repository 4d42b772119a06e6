use Rattle.std.proofs.Common.{◌≡◌, ℕ, ◌+◌, ◌*◌, ◌<◌, ◌≤◌, cond, ltb, slice_index}
use Rattle.flow_network.specs.Cut.{nodes}
use Rattle.flow_network.specs.Progress.{top}
use Rattle.sink_distances.specs.Distances.{AreDistancesButZeros}
use Rattle.sink_distances.specs.Search.{ListsAllBelow}
use Rattle.plain_cut.specs.State.{work_flow, IsWork, work_measure}
use Rattle.plain_cut.proofs.solver.make_phases.Given as goal

abbrev pub invariant-phases : goal.invariant-phases
invariant-phases l = record {
  work : IsWork l.net l.work;
  fits : l.extent.limit ≤ top l.net;
  count : l.extent.count ≤ nodes l.net;
  places : (i : ℕ) → i < l.extent.count → slice_index l.order i < nodes l.net;
  listed : ListsAllBelow l.net l.work.labels.items l.extent.limit l.order l.extent.count;
  exact : l.extent.limit ≡ top l.net → AreDistancesButZeros l.net (work_flow l.net l.work) l.work.labels.items;
  counted : l.work.relabels ≡ 0;
}

-- a phase with new labels lowers what is left; after one without the search is a full one
abbrev pub decreases-phases : goal.decreases-phases
decreases-phases l = 2 * work_measure l.net l.work + cond (ltb l.extent.limit (top l.net)) 1 0
