use Rattle.std.proofs.Common.{map, inr}
use Rattle.gco_cli.specs.Refusals.{IsRefusalFor}
use Rattle.gco_cli.proofs.RefusalLemmas.{all_refused, all_shown, as_fault, of_command}
use Rattle.gco_cli.proofs.runs.perform.Goals as goal

pub returns-in_err-answer_request-in-Ok-clause-refused :
    goal.returns-in_err-answer_request-in-Ok-clause-refused
returns-in_err-answer_request-in-Ok-clause-refused g c =
    let words = map g.S.AsStr.text c.args.words.now in
    let source = g.R.Source.stream c.args.source.now in
    let source_new = g.R.Source.stream c.answer_request.new.source in
    let old = g.W.Sink.stream c.args.sink.now in
    let new = g.W.Sink.stream c.answer_request.new.sink in
    let fault = c.in_err-answer_request-in-Ok.field-0.0 in
    as_fault (IsRefusalFor words source source_new old new) fault c.from_residual.result c.from_residual.ensures.1
    (of_command words c.in-Ok.request source source_new old new fault c.in-Ok.ensures.asked c.in_err-answer_request-in-Ok.ensures.refused c.in_err-answer_request-in-Ok.ensures.read)

pub returns-in-Err-clause-refused : goal.returns-in-Err-clause-refused
returns-in-Err-clause-refused g c =
    all_refused (map g.S.AsStr.text c.args.words.now) c.in-Err.no_task (g.R.Source.stream c.args.source.now) (g.W.Sink.stream c.args.sink.now) (g.W.Sink.stream c.end_without_task.new.sink)
    c.end_without_task.result c.in-Err.ensures.refused c.in-Err.ensures.told c.end_without_task.ensures.refused

pub returns-in-Err-clause-done : goal.returns-in-Err-clause-done
returns-in-Err-clause-done g c =
    all_shown (λ said. said.bytes) (map g.S.AsStr.text c.args.words.now) c.in-Err.no_task (g.R.Source.stream c.args.source.now) (g.W.Sink.stream c.args.sink.now) (g.W.Sink.stream c.end_without_task.new.sink)
    c.end_without_task.result c.in-Err.ensures.refused c.end_without_task.ensures.done

pub returns-in_ok-answer_request-in-Ok-clause-done : goal.returns-in_ok-answer_request-in-Ok-clause-done
returns-in_ok-answer_request-in-Ok-clause-done g c =
    let of = c.in_ok-answer_request-in-Ok.ensures in
    let done = of.done in ((done.0, inr (c.in-Ok.request, c.in-Ok.ensures.asked, done.1), done.2), of.read)
