use Rattle.cut_in_blocks.proofs.Taking.{taken_then}
use Rattle.cut_in_blocks.proofs.messages.take_way.Goals as goal

pub messages-preserved : goal.messages-preserved
messages-preserved c = taken_then c.args.state.now c.messages.state c.take_front.new.state c.messages.some c.messages.invariant c.messages-test.ensures.taken
