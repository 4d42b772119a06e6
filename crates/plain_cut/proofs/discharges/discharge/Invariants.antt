use Rattle.std.proofs.Common.{◌≡◌, ◌≤◌, slice_index}
use Rattle.plain_cut.specs.State.{IsSteps, work_measure}
use Rattle.plain_cut.proofs.discharges.discharge.Given as goal

abbrev pub invariant-steps : goal.invariant-steps
invariant-steps l = record {
  steps : IsSteps l.net l.v l.fn.work l.work;
  aside : l.limit ≤ slice_index l.fn.work.labels.items l.v → l.work ≡ l.fn.work;
}

abbrev pub decreases-steps : goal.decreases-steps
decreases-steps l = work_measure l.net l.work
