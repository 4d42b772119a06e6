use Rattle.std.proofs.lemmas.Result.{err_from_is_err_and}
use Rattle.program_tasks.proofs.FaultKinds.{label_plain, read_failed}
use Rattle.program_tasks.proofs.LabelFaults.{label_stands, unread_label}
use Rattle.program_tasks.proofs.label.read_problem.Goals as goal

pub returns-in_err-bytes-clause-stands : goal.returns-in_err-bytes-clause-stands
returns-in_err-bytes-clause-stands g c =
    let p = err_from_is_err_and c.from_residual.result c.from_residual.ensures.1 in
    rw (p.1, p.2) (unread_label (g.R.Source.stream c.args.source.now) c.in_err-bytes.field-0.0 c.in_err-bytes.ensures.input)

pub returns-in_err-bytes-clause-read : goal.returns-in_err-bytes-clause-read
returns-in_err-bytes-clause-read g c =
    let p = err_from_is_err_and c.from_residual.result c.from_residual.ensures.1 in
    rw (p.1, p.2, read_failed c.in_err-bytes.field-0.0) c.in_err-bytes.ensures.fault

pub returns-in_err-read_label-clause-stands : goal.returns-in_err-read_label-clause-stands
returns-in_err-read_label-clause-stands g c =
    let p = err_from_is_err_and c.from_residual-in_err-read_label.result c.from_residual-in_err-read_label.ensures.1 in
    rw (p.1, p.2) (label_stands c.as_slice.result.now c.in_ok-bytes.bytes.items (g.R.Source.stream c.args.source.now) c.in_err-read_label.field-0.0
    c.as_slice.ensures.value c.in_ok-bytes.ensures.input c.in_ok-bytes.ensures.limit c.in_err-read_label.ensures.refused c.in_err-read_label.ensures.text)

pub returns-in_err-read_label-clause-read : goal.returns-in_err-read_label-clause-read
returns-in_err-read_label-clause-read g c =
    let p = err_from_is_err_and c.from_residual-in_err-read_label.result c.from_residual-in_err-read_label.ensures.1 in
    rw (p.1, p.2, (label_plain c.in_err-read_label.field-0.0).0) c.in_ok-bytes.ensures.fault
