use Rattle.std.proofs.Common.{arith}
use Rattle.std.proofs.lemmas.Grind.{common_steps}
use Rattle.block_workers.proofs.Passing.{all_stay, all_set, advanced_turn}
use Rattle.block_workers.proofs.worker.Worker.take_turn.Goals as goal

pub returns-then-not-draw : goal.returns-then-not-draw
returns-then-not-draw g c = all_stay c.args.self.now.seats.items

pub returns : goal.returns
returns g c =
    let seats = c.args.self.now.seats.items in
    all_set seats c.args.k c.index_mut.result.now c.go_on-self.new.self (grind (arith, common_steps)) c.index_mut.ensures.value
    (advanced_turn c.index_mut.result.now c.go_on-self.new.self c.go_on-self.ensures.went c.go_on-self.ensures.turn)
