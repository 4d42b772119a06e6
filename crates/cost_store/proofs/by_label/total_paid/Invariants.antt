use Rattle.std.proofs.Common.{◌≡◌, ◌*◌, ◌≤◌, length}
use Rattle.sums.specs.Sums.{sum_below, count_if}
use Rattle.label_energies.specs.Energies.{labelling as labels_of, is_used as is_used_in}
use Rattle.cost_store.specs.LabelCosts.{cost_at}
use Rattle.cost_store.proofs.by_label.total_paid.Given as goal

abbrev pub invariant-loop-label : goal.invariant-loop-label
invariant-loop-label l = record {
  value : l.total ≡ sum_below l.label (λ label. count_if (is_used_in (length l.at) (labels_of l.at) label) (cost_at l.costs label));
  range : l.total ≤ 10000000 * l.label;
}
