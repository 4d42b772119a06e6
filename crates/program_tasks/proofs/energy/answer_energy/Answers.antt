use Rattle.std.proofs.Common.{refl, true}
use Rattle.std.proofs.lemmas.Result.{err_from_is_err_and}
use Rattle.program_tasks.proofs.EnergyFaults.{cut_stands, file_stands, irregular_stands}
use Rattle.program_tasks.proofs.energy.answer_energy.Goals as goal

pub returns-in_err-energy-clause-stands : goal.returns-in_err-energy-clause-stands
returns-in_err-energy-clause-stands g c =
    let p = err_from_is_err_and c.from_residual.result c.from_residual.ensures.1 in
    rw (p.1, p.2) (file_stands (g.H.How.refuses c.args.how.now) (g.R.Source.stream c.args.source.now) c.in_err-energy.field-0.0 c.in_err-energy.ensures.stands)

pub returns-in_err-regular-clause-stands : goal.returns-in_err-regular-clause-stands
returns-in_err-regular-clause-stands g c =
    let p = err_from_is_err_and c.from_residual-in_err-regular.result c.from_residual-in_err-regular.ensures.1 in
    rw (p.1, p.2) (irregular_stands (g.H.How.refuses c.args.how.now) (g.R.Source.stream c.args.source.now) c.in_ok-energy.energy c.in_err-regular.field-0.0
    c.in_ok-energy.ensures.named c.in_err-regular.ensures.first)

pub returns-in_err-energy_answer-clause-stands : goal.returns-in_err-energy_answer-clause-stands
returns-in_err-energy_answer-clause-stands g c =
    let p = err_from_is_err_and c.from_residual-in_err-energy_answer.result c.from_residual-in_err-energy_answer.ensures.1 in
    rw (p.1, p.2) (cut_stands (g.H.How.refuses c.args.how.now) (g.R.Source.stream c.args.source.now) c.in_ok-energy.energy c.in_err-energy_answer.field-0.0
    c.in_ok-energy.ensures.named (c.in_ok-regular.ensures.regular.0 (refl {a = true})) c.in_err-energy_answer.ensures.refused)
