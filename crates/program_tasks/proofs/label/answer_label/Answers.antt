use Rattle.std.proofs.lemmas.Result.{err_from_is_err_and}
use Rattle.program_tasks.proofs.LabelFaults.{read_stands}
use Rattle.program_tasks.proofs.label.answer_label.Goals as goal

pub returns-in_err-problem-clause-stands : goal.returns-in_err-problem-clause-stands
returns-in_err-problem-clause-stands g c =
    let p = err_from_is_err_and c.from_residual.result c.from_residual.ensures.1 in
    rw (p.1, p.2) (read_stands (g.H.How.refuses c.args.how.now) (g.R.Source.stream c.args.source.now) c.in_err-problem.field-0.0 c.in_err-problem.ensures.stands)
