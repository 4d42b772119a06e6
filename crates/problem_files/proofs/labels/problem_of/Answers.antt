use Rattle.std.proofs.Common.{◌≡◌, ◌*◌, IfOk, Ok, arith, rules}
use Rattle.toml.specs.View.{table_view}
use Rattle.problem_files.specs.Smooths.{table_by}
use Rattle.problem_files.proofs.LimitLemmas.{data_kept, smooth_kept}
use Rattle.problem_files.specs.Names.{problem_of_table, problem_view}
use Rattle.problem_files.proofs.StatedLabelLemmas.{all_stated}
use Rattle.problem_files.proofs.labels.problem_of.Goals as goal

pub rest_of-requires-clause-sizes : goal.rest_of-requires-clause-sizes
rest_of-requires-clause-sizes c = (c.in_ok-sites.ensures.range.1, c.in_ok-labels.ensures.range.0, c.in_ok-labels.ensures.range.1)

pub rest_of-requires-clause-costs : goal.rest_of-requires-clause-costs
rest_of-requires-clause-costs c =
    let costs = data_kept (table_view c.args.table.now) (c.in_ok-sites.sites * c.in_ok-labels.labels) c.in_ok-data.data.items c.in_ok-data.ensures.ok in
    let table = smooth_kept (table_view c.args.table.now) c.in_ok-labels.labels c.in_ok-most.most (table_by c.in_ok-labels.labels c.in_ok-smooth.smooth)
    (c.in_ok-most.ensures.range (omega arith, omega arith)).1 c.in_ok-smooth.ensures.ok in
    record {
      data_count = costs.0;
      data_most = costs.1;
      smooth_count = rw c.in-Ok.ensures table.0;
      smooth_most = rw c.in-Ok.ensures table.1;
    }

pub returns-clause-stated : goal.returns-clause-stated
returns-clause-stated c =
    let named : IfOk c.rest_of.result (λ p. problem_of_table (table_view c.args.table.now) ≡ Ok (problem_view p)) = search rules in
    all_stated (table_view c.args.table.now) c.rest_of.result named
