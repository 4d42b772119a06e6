use Rattle.program_tasks.proofs.PictureLemmas.{IsInput, read_whole, refuses, unread, wrote}
use Rattle.program_tasks.proofs.pictures.picture.Goals as goal

pub returns-in-Ok-clause-done : goal.returns-in-Ok-clause-done
returns-in-Ok-clause-done g c =
    let source = g.R.Source.stream c.args.source.now in
    let old = g.W.Sink.stream c.args.sink.now in
    let new = g.W.Sink.stream c.run_picture.new.sink in
    let bytes = c.as_slice.result.now in
    let is : IsInput bytes source = read_whole bytes c.in_ok-input.input.items source c.as_slice.ensures.value c.in_ok-input.ensures.input c.in_ok-input.ensures.limit in
    wrote c.args.options c.tells_labels.result c.asks_bound.result bytes c.report_lines.result.bytes source old new c.in-Ok.report
    c.tells_labels.ensures c.asks_bound.ensures is c.in-Ok.ensures.done c.report_lines.ensures

pub returns-in_err-input-clause-refused : goal.returns-in_err-input-clause-refused
returns-in_err-input-clause-refused g c =
    let source = g.R.Source.stream c.args.source.now in
    let sink = g.W.Sink.stream c.args.sink.now in
    unread (g.H.How.refuses c.args.how.now) c.args.options source sink c.in_err-input.field-0.0 c.from_residual.result
    c.from_residual.ensures.1 c.in_err-input.ensures.input

pub returns-clause-refused : goal.returns-clause-refused
returns-clause-refused g c =
    let source = g.R.Source.stream c.args.source.now in
    let old = g.W.Sink.stream c.args.sink.now in
    let new = g.W.Sink.stream c.run_picture.new.sink in
    let bytes = c.as_slice.result.now in
    let is : IsInput bytes source = read_whole bytes c.in_ok-input.input.items source c.as_slice.ensures.value c.in_ok-input.ensures.input c.in_ok-input.ensures.limit in
    refuses (g.H.How.refuses c.args.how.now) c.args.options bytes source old new c.in-Err.error c.picture_fault.result is c.in-Err.ensures.refused
    (λ no. let same = c.in-Err.ensures.unchanged no in cc) c.picture_fault.ensures
