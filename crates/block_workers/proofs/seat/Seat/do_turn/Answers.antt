use Rattle.std.proofs.Common.{arith}
use Rattle.block_workers.proofs.seat.Seat.do_turn.Goals as goal

pub returns-clause-some : goal.returns-clause-some
returns-clause-some c = c.turn_with-count.ensures.some (omega arith)
