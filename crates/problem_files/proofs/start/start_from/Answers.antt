use Rattle.std.proofs.Common.{map}
use Rattle.toml.specs.View.{view}
use Rattle.problem_files.specs.ListFields.{natural_of}
use Rattle.problem_files.proofs.Listed.{map_viewed}
use Rattle.problem_files.proofs.StartLemmas.{start_listed}
use Rattle.problem_files.proofs.start.start_from.Goals as goal

pub returns-clause-ok : goal.returns-clause-ok
returns-clause-ok c =
    rw (c.fill.ensures, c.requires.labels, ← map_viewed natural_of c.in_ok-items.items.now.items)
    (start_listed c.args.sites c.args.labels (view c.args.value.now) (map view c.in_ok-items.items.now.items) c.in_ok-items.ensures.ok)
