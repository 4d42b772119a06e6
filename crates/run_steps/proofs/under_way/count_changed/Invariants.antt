use Rattle.std.proofs.Common.{◌≡◌, ◌≤◌, ◌==◌, not, slice_index}
use Rattle.sums.specs.Sums.{sum_below, count_if}
use Rattle.run_steps.proofs.under_way.count_changed.Given as goal

abbrev pub invariant-loop-site : goal.invariant-loop-site
invariant-loop-site l = record {
  counted : l.changed ≡ sum_below l.site (λ i. count_if (not (slice_index l.now i == slice_index l.before i)) 1);
  few : l.changed ≤ l.site;
}
