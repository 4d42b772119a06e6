use Rattle.moves.proofs.runs.run_swap.Goals as goal

pub returns-clause-over_metric : goal.returns-clause-over_metric
returns-clause-over_metric g c = λ m meant free. c.run.ensures.over_metric m meant free
