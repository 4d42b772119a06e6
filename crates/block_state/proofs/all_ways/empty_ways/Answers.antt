use Rattle.std.proofs.lemmas.Grind.{common_steps}
use Rattle.std.proofs.Common.{arith}
use Rattle.block_state.proofs.all_ways.empty_ways.Goals as goal

pub loop-room-preserved : goal.loop-room-preserved
loop-room-preserved c = grind (arith, common_steps)

pub returns-clause-messages : goal.returns-clause-messages
returns-clause-messages c = grind (arith, common_steps)

pub returns-clause-rooms : goal.returns-clause-rooms
returns-clause-rooms c = grind (arith, common_steps)
