use Rattle.std.proofs.Common.{map}
use Rattle.gco_cli.specs.Run.{streams}
use Rattle.gco_cli.proofs.RefusalLemmas.{run_of}
use Rattle.gco_cli.proofs.runs.run_gated.Goals as goal

pub returns-clause-run : goal.returns-clause-run
returns-clause-run g c =
    let old = streams (g.R.Source.stream c.args.source.now) (g.W.Sink.stream c.args.sink.now) (g.E.Sink.stream c.args.faults.now) in
    let new = streams (g.R.Source.stream c.perform-end.new.source) (g.W.Sink.stream c.perform-end.new.sink) (g.E.Sink.stream c.say_end.new.faults) in
    rw c.say_end.ensures.status
    (run_of (λ said. said.bytes) (map g.S.AsStr.text c.args.words.now) old new c.perform-end.result c.say_end.ensures.told
    c.perform-end.ensures.done c.perform-end.ensures.refused)
