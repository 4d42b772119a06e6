use Rattle.block_workers.specs.Workers.{AllAdvanced}
use Rattle.block_workers.proofs.worker.Worker.pass.Given as goal

abbrev pub invariant-loop-k : goal.invariant-loop-k
invariant-loop-k g l = AllAdvanced l.fn.self.seats.items l.self.seats.items
