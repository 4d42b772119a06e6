use Rattle.std.proofs.Common.{arith}
use Rattle.std.proofs.lemmas.Grind.{common_steps}
use Rattle.block_workers.proofs.Passing.{all_more, all_set, advanced_look}
use Rattle.block_workers.proofs.worker.Worker.turn_if_wanted.Goals as goal

pub returns-then-not-wants : goal.returns-then-not-wants
returns-then-not-wants g c =
    all_set c.args.self.now.seats.items c.args.k c.index_mut.result.now c.wants.new.self (grind (arith, common_steps)) c.index_mut.ensures.value
    (advanced_look c.index_mut.result.now c.wants.new.self c.wants.ensures.went c.wants.ensures.turn)

pub returns-then-not-take_turn : goal.returns-then-not-take_turn
returns-then-not-take_turn g c =
    all_more c.args.self.now.seats.items _ c.take_turn.new.self.seats.items
    (all_set c.args.self.now.seats.items c.args.k c.index_mut.result.now c.wants.new.self (grind (arith, common_steps)) c.index_mut.ensures.value
    (advanced_look c.index_mut.result.now c.wants.new.self c.wants.ensures.went c.wants.ensures.turn))
    c.take_turn.ensures

pub returns : goal.returns
returns g c =
    all_more c.args.self.now.seats.items _ c.take_turn.new.self.seats.items
    (all_set c.args.self.now.seats.items c.args.k c.index_mut.result.now c.wants.new.self (grind (arith, common_steps)) c.index_mut.ensures.value
    (advanced_look c.index_mut.result.now c.wants.new.self c.wants.ensures.went c.wants.ensures.turn))
    c.take_turn.ensures
