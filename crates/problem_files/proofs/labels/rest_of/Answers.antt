use Rattle.std.proofs.Common.{arith}
use Rattle.toml.specs.View.{table_view}
use Rattle.problem_files.specs.LabelCostFields.{costs_told}
use Rattle.problem_files.proofs.LimitLemmas.{label_costs_kept}
use Rattle.problem_files.proofs.labels.rest_of.Goals as goal

pub returns-clause-limits : goal.returns-clause-limits
returns-clause-limits c = record {
  sizes = c.requires.sizes;
  data_count = c.requires.costs.data_count;
  data_most = c.requires.costs.data_most;
  smooth_count = c.requires.costs.smooth_count;
  smooth_most = c.requires.costs.smooth_most;
  pair_sites = c.in_ok-pairs.ensures.sites;
  weighted = c.in_ok-pairs.ensures.weighted;
  start_sites = c.in_ok-start.ensures.sizes.0;
  start_labels = c.in_ok-start.ensures.sizes.1;
  cycles_most = (c.in_ok-cycles.ensures.range (omega arith, omega arith)).1;
  label_costs = label_costs_kept (table_view c.args.table.now) c.args.labels (costs_told c.in_ok-label_costs.label_costs) c.in_ok-label_costs.ensures.ok;
}
