use Rattle.block_workers.specs.Workers.{AllWorked}
use Rattle.block_workers.proofs.worker.Worker.work.Given as goal

abbrev pub invariant-loop : goal.invariant-loop
invariant-loop g l = AllWorked l.fn.self.seats.items l.self.seats.items
