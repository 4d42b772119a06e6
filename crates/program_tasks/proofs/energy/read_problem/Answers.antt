use Rattle.std.proofs.lemmas.Result.{err_from_is_err_and}
use Rattle.program_tasks.proofs.EnergyFaults.{file_told, unread_file}
use Rattle.program_tasks.proofs.FaultKinds.{energy_plain, read_failed}
use Rattle.program_tasks.proofs.energy.read_problem.Goals as goal

pub returns-in_err-bytes-clause-stands : goal.returns-in_err-bytes-clause-stands
returns-in_err-bytes-clause-stands g c =
    let p = err_from_is_err_and c.from_residual.result c.from_residual.ensures.1 in
    rw (p.1, p.2) (unread_file (g.R.Source.stream c.args.source.now) c.in_err-bytes.field-0.0 c.in_err-bytes.ensures.input)

pub returns-in_err-bytes-clause-read : goal.returns-in_err-bytes-clause-read
returns-in_err-bytes-clause-read g c =
    let p = err_from_is_err_and c.from_residual.result c.from_residual.ensures.1 in
    rw (p.1, p.2, read_failed c.in_err-bytes.field-0.0) c.in_err-bytes.ensures.fault

pub returns-in_err-read_energy-clause-stands : goal.returns-in_err-read_energy-clause-stands
returns-in_err-read_energy-clause-stands g c =
    let p = err_from_is_err_and c.from_residual-in_err-read_energy.result c.from_residual-in_err-read_energy.ensures.1 in
    let e = c.in_err-read_energy.field-0.0 in
    rw (p.1, p.2) (file_told (g.R.Source.stream c.args.source.now) c.in_ok-bytes.bytes.items e c.in_ok-bytes.ensures.input c.in_ok-bytes.ensures.limit
    (rw c.as_slice.ensures.value at c.in_err-read_energy.ensures.refused))

pub returns-in_err-read_energy-clause-read : goal.returns-in_err-read_energy-clause-read
returns-in_err-read_energy-clause-read g c =
    let p = err_from_is_err_and c.from_residual-in_err-read_energy.result c.from_residual-in_err-read_energy.ensures.1 in
    rw (p.1, p.2, (energy_plain c.in_err-read_energy.field-0.0).0) c.in_ok-bytes.ensures.fault
