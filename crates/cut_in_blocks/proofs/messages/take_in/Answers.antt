use Rattle.std.proofs.Common.{true}
use Rattle.cut_in_blocks.proofs.Lowering.{lowers_le}
use Rattle.cut_in_blocks.proofs.Taking.{taken_then, taken_still}
use Rattle.cut_in_blocks.proofs.messages.take_in.Goals as goal

pub rounds-preserved : goal.rounds-preserved
rounds-preserved c = (true, taken_then c.args.state.now c.rounds.state c.take_all.new.state c.rounds.invariant.0 c.rounds.invariant.1 c.rounds-test.ensures.taken)

pub returns-clause-after : goal.returns-clause-after
returns-clause-after c =
    let some = c.rounds.invariant.0 in
    let all = taken_still c.args.state.now c.rounds.state c.take_all.new.state some c.rounds.invariant.1 c.rounds-test.ensures.taken in
    record { net = all.lowers.net; count = lowers_le c.args.state.now c.take_all.new.state some all.lowers }
