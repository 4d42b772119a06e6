use Rattle.plain_cut.proofs.Steps.{steps_more}
use Rattle.plain_cut.proofs.pushes.push_all.Goals as goal

pub returns-in_ok-push_row-clause-steps : goal.returns-in_ok-push_row-clause-steps
returns-in_ok-push_row-clause-steps c =
    steps_more c.args.net.now c.args.v c.args.work.now c.try_push_sink.new.work c.push_row.new.work c.try_push_sink.ensures.steps c.in_ok-push_row.ensures.steps

pub returns-in_ok-push_round-clause-steps : goal.returns-in_ok-push_round-clause-steps
returns-in_ok-push_round-clause-steps c =
    steps_more c.args.net.now c.args.v c.args.work.now c.try_push_sink.new.work c.push_round.new.work c.try_push_sink.ensures.steps c.in_ok-push_round.ensures.steps
