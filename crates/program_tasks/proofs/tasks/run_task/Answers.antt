use Rattle.command_line.specs.declared.task.Task.TheVariants.{Energy, Label}
use Rattle.program_tasks.proofs.TaskLemmas.{cut_in, task_refused}
use Rattle.program_tasks.specs.Commands.{IsDueFor, IsFaultFor}
use Rattle.program_tasks.proofs.tasks.run_task.Goals as goal

pub returns-in_ok-answer-in-Energy-clause-refused : goal.returns-in_ok-answer-in-Energy-clause-refused
returns-in_ok-answer-in-Energy-clause-refused g c =
    let refuses = g.H.How.refuses c.args.how.now in
    let source = g.R.Source.stream c.args.source.now in
    let old = g.W.Sink.stream c.args.sink.now in
    let new = g.W.Sink.stream c.write_text.new.sink in
    let answer = c.in_ok-answer-in-Energy.answer in
    rw c.in-Energy.is (cut_in (IsDueFor Energy source) (IsFaultFor refuses Energy source) old new c.as_slice.result.now answer.text.items answer.said.bytes
    c.write_text.result c.as_slice.ensures.value c.in_ok-answer-in-Energy.ensures.due c.write_text.ensures.cut)

pub returns-in_ok-answer-in-Label-clause-refused : goal.returns-in_ok-answer-in-Label-clause-refused
returns-in_ok-answer-in-Label-clause-refused g c =
    let refuses = g.H.How.refuses c.args.how.now in
    let source = g.R.Source.stream c.args.source.now in
    let old = g.W.Sink.stream c.args.sink.now in
    let new = g.W.Sink.stream c.write_text-in-Label.new.sink in
    let answer = c.in_ok-answer-in-Label.answer in
    rw c.in-Label.is (cut_in (IsDueFor (Label c.in-Label.bound) source) (IsFaultFor refuses (Label c.in-Label.bound) source) old new c.as_slice-in-Label.result.now answer.text.items answer.said.bytes
    c.write_text-in-Label.result c.as_slice-in-Label.ensures.value c.in_ok-answer-in-Label.ensures.due c.write_text-in-Label.ensures.cut)

pub returns-in_err-answer-in-Energy-clause-refused : goal.returns-in_err-answer-in-Energy-clause-refused
returns-in_err-answer-in-Energy-clause-refused g c =
    let sink = g.W.Sink.stream c.args.sink.now in
    rw c.in-Energy.is (task_refused (g.H.How.refuses c.args.how.now) Energy (g.R.Source.stream c.args.source.now) sink c.in_err-answer-in-Energy.field-0.0 c.from_residual.result
    c.from_residual.ensures.1 c.in_err-answer-in-Energy.ensures.stands)

pub returns-in_err-answer-in-Label-clause-refused : goal.returns-in_err-answer-in-Label-clause-refused
returns-in_err-answer-in-Label-clause-refused g c =
    let sink = g.W.Sink.stream c.args.sink.now in
    rw c.in-Label.is (task_refused (g.H.How.refuses c.args.how.now) (Label c.in-Label.bound) (g.R.Source.stream c.args.source.now) sink c.in_err-answer-in-Label.field-0.0
    c.from_residual-in_err-answer-in-Label.result c.from_residual-in_err-answer-in-Label.ensures.1 c.in_err-answer-in-Label.ensures.stands)
