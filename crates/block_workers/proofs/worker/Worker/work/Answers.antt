use Rattle.block_workers.proofs.Passing.{all_more, all_worked}
use Rattle.block_workers.proofs.worker.Worker.work.Goals as goal

pub loop-preserved-in-Some-true : goal.loop-preserved-in-Some-true
loop-preserved-in-Some-true g c =
    all_worked c.args.self.now.seats.items c.loop.self.seats.items c.pass.new.self.seats.items c.loop.invariant c.pass.ensures

pub returns-then-not-wait_turn : goal.returns-then-not-wait_turn
returns-then-not-wait_turn g c =
    all_worked c.args.self.now.seats.items c.loop.self.seats.items c.wait_turn.new.self.seats.items c.loop.invariant
    (all_more c.loop.self.seats.items c.pass.new.self.seats.items c.wait_turn.new.self.seats.items c.pass.ensures c.wait_turn.ensures)

pub loop-preserved : goal.loop-preserved
loop-preserved g c =
    all_worked c.args.self.now.seats.items c.loop.self.seats.items c.wait_turn.new.self.seats.items c.loop.invariant
    (all_more c.loop.self.seats.items c.pass.new.self.seats.items c.wait_turn.new.self.seats.items c.pass.ensures c.wait_turn.ensures)

pub returns-in-None-pass : goal.returns-in-None-pass
returns-in-None-pass g c =
    all_worked c.args.self.now.seats.items c.loop.self.seats.items c.pass.new.self.seats.items c.loop.invariant c.pass.ensures
