use Rattle.block_workers.proofs.Working.{went_none}
use Rattle.block_workers.proofs.seat.Seat.wants.Goals as goal

pub returns-then-self-clause-went : goal.returns-then-self-clause-went
returns-then-self-clause-went c = went_none c.args.self.now

pub returns-then-self-2-clause-went : goal.returns-then-self-2-clause-went
returns-then-self-2-clause-went c = went_none c.args.self.now
