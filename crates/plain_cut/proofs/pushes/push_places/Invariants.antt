use Rattle.std.proofs.Common.{◌≡◌, ◌<◌, ◌≤◌, ℕ, slice_index}
use Rattle.plain_cut.specs.State.{IsSteps, IsPush, IsSpent, ChangesAmong}
use Rattle.plain_cut.proofs.pushes.push_places.Given as goal

abbrev pub invariant-row : goal.invariant-row
invariant-row l = record {
  steps : IsSteps l.net l.v l.initial.work l.work;
  left : l.left ≡ slice_index l.work.excess.items l.v;
  push : IsPush l.v l.initial.work l.work;
  others : ChangesAmong l.v l.first l.last l.initial.work l.work;
  spent : (q : ℕ) → l.first ≤ q → q < l.p → IsSpent l.work l.v q;
}
