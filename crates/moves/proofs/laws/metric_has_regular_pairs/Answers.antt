use Rattle.moves.proofs.Refused.{metric_refusal}
use Rattle.moves.proofs.Entries.{metric_run}
use Rattle.moves.proofs.laws.metric_has_regular_pairs.Goals as goal

pub returns-clause-moved : goal.returns-clause-moved
returns-clause-moved c = λ m move f g e pairs metric field moved. metric_refusal m move f e field.below pairs field.sites field.labels metric moved.1

pub returns-clause-run : goal.returns-clause-run
returns-clause-run c = λ m moves allowed f g e pairs metric field run. metric_run m moves allowed f g e field.below pairs field.sites field.labels metric run
