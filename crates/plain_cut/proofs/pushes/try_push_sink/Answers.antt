use Rattle.std.proofs.lemmas.Grind.{common_steps}
use Rattle.std.proofs.Common.{arith, refl}
use Rattle.plain_cut.proofs.Steps.{steps_one}
use Rattle.plain_cut.proofs.pushes.try_push_sink.Goals as goal

pub push_sink-requires-clause-residual : goal.push_sink-requires-clause-residual
push_sink-requires-clause-residual c = grind (arith, common_steps)

pub push_sink-requires-clause-some : goal.push_sink-requires-clause-some
push_sink-requires-clause-some c = grind (arith, common_steps)

pub returns-else-index-gt0-clause-spent : goal.returns-else-index-gt0-clause-spent
returns-else-index-gt0-clause-spent c = grind (arith, common_steps)

pub push_sink-requires-clause-work : goal.push_sink-requires-clause-work
push_sink-requires-clause-work c = c.requires.work

pub returns-then-index-gt0-2 : goal.returns-then-index-gt0-2
returns-then-index-gt0-2 c = record {
  steps = steps_one c.args.net.now c.args.v c.args.work.now c.push_sink.new.work c.push_sink.ensures.step;
  rows = c.push_sink.ensures.rows;
  labels = c.push_sink.ensures.labels;
  spent = c.push_sink.ensures.spent;
}

pub returns-else-index-gt0-clause-steps : goal.returns-else-index-gt0-clause-steps
returns-else-index-gt0-clause-steps c = record { work = c.requires.work; fall = omega arith; lower = omega arith; counted = omega arith; queued = λ limit q. q }

pub returns-else-index-gt0-clause-rows : goal.returns-else-index-gt0-clause-rows
returns-else-index-gt0-clause-rows c = refl

pub returns-else-index-gt0-clause-labels : goal.returns-else-index-gt0-clause-labels
returns-else-index-gt0-clause-labels c = refl
