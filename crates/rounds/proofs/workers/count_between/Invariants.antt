use Rattle.std.proofs.Common.{◌≡◌, ◌*◌, ◌/◌, ◌≤◌, not, sum_by, take}
use Rattle.std.specs.Prelude.{◌==◌}
use Rattle.sums.specs.Sums.{count_if}
use Rattle.rounds.proofs.workers.count_between.Given as goal

abbrev pub invariant-loop-arc : goal.invariant-loop-arc
invariant-loop-arc l = record {
  few : l.between ≤ l.arc-index;
  sum : l.between ≡ sum_by (λ arc. count_if (not (arc.from * l.blocks / l.nodes == arc.to * l.blocks / l.nodes)) 1) (take l.arc-index l.arc-items);
}
