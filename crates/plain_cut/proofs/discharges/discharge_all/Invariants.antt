use Rattle.std.proofs.Common.{◌+◌, ◌≤◌, length}
use Rattle.flow_network.specs.Cut.{nodes}
use Rattle.plain_cut.specs.State.{IsWork, IsQueuedBut, work_measure}
use Rattle.plain_cut.proofs.discharges.discharge_all.Given as goal

abbrev pub invariant-discharges : goal.invariant-discharges
invariant-discharges l = record {
  work : IsWork l.net l.work;
  queued : IsQueuedBut l.net l.limit (nodes l.net) l.work;
  counted : work_measure l.net l.work + l.work.relabels ≤ work_measure l.net l.initial.work + l.initial.work.relabels;
}

abbrev pub decreases-discharges : goal.decreases-discharges
decreases-discharges l = work_measure l.net l.work + length l.work.queue.items
