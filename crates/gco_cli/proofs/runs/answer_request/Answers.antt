use Rattle.std.proofs.Common.{IfErr, Option, subst, sym}
use Rattle.worker_options.specs.declared.options.Options.{Options}
use Rattle.program_tasks.specs.Commands.{IsDueFor, IsFaultFor}
use Rattle.gco_cli.specs.Asked.{cuts_refuse}
use Rattle.program_tasks.specs.Refusals.{Refuses}
use Rattle.gco_cli.proofs.runs.answer_request.Goals as goal

pub returns-in-None-clause-refused : goal.returns-in-None-clause-refused
returns-in-None-clause-refused g c =
    let task = c.args.request.task in
    let source = g.R.Source.stream c.args.source.now in
    let old = g.W.Sink.stream c.args.sink.now in
    let new = g.W.Sink.stream c.run_task.new.sink in
    let P : Option Options → Type 0 = λ workers. IfErr c.run_task.result (Refuses (IsDueFor task source) (IsFaultFor (cuts_refuse workers) task source) old new) in
    subst P (sym c.in-None.is) c.run_task.ensures.refused

pub returns-in-Some-clause-refused : goal.returns-in-Some-clause-refused
returns-in-Some-clause-refused g c =
    let task = c.args.request.task in
    let source = g.R.Source.stream c.args.source.now in
    let old = g.W.Sink.stream c.args.sink.now in
    let new = g.W.Sink.stream c.run_by_workers.new.sink in
    let P : Option Options → Type 0 = λ workers. IfErr c.run_by_workers.result (Refuses (IsDueFor task source) (IsFaultFor (cuts_refuse workers) task source) old new) in
    subst P (sym c.in-Some.is) c.run_by_workers.ensures.refused
