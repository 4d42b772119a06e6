use Rattle.std.proofs.Common.{map}
use Rattle.toml.specs.View.{view}
use Rattle.problem_files.proofs.CostLemmas.{costs_listed}
use Rattle.problem_files.proofs.costs.label_costs_from.Goals as goal

pub returns-in-Ok-clause-ok : goal.returns-in-Ok-clause-ok
returns-in-Ok-clause-ok c =
    costs_listed c.args.labels (view c.args.value.now) (map view c.in_ok-items.items.now.items) c.in-Ok.costs.items c.in_ok-items.ensures.ok c.in-Ok.ensures
