use Rattle.block_workers.proofs.Passing.{all_stay, all_more}
use Rattle.block_workers.proofs.worker.Worker.pass.Goals as goal

pub loop-k-init : goal.loop-k-init
loop-k-init g c = all_stay c.args.self.now.seats.items

pub returns-in-None : goal.returns-in-None
returns-in-None g c =
    all_more c.args.self.now.seats.items c.loop-k.self.seats.items c.turn_if_wanted.new.self.seats.items c.loop-k.invariant c.turn_if_wanted.ensures

pub loop-k-preserved : goal.loop-k-preserved
loop-k-preserved g c =
    all_more c.args.self.now.seats.items c.loop-k.self.seats.items c.turn_if_wanted.new.self.seats.items c.loop-k.invariant c.turn_if_wanted.ensures
