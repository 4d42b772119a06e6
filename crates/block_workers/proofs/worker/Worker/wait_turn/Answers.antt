use Rattle.block_workers.proofs.Passing.{all_stay}
use Rattle.block_workers.proofs.worker.Worker.wait_turn.Goals as goal

pub returns-then-not-self : goal.returns-then-not-self
returns-then-not-self g c = all_stay c.args.self.now.seats.items

pub returns-in-None : goal.returns-in-None
returns-in-None g c = all_stay c.args.self.now.seats.items
