use Rattle.block_events.specs.Soundness.{potential}
use Rattle.cut_in_blocks.specs.Takes.{IsTakenIn}
use Rattle.cut_in_blocks.proofs.messages.take_way.Given as goal

abbrev pub invariant-messages : goal.invariant-messages
invariant-messages l = IsTakenIn l.fn.state l.state l.some

abbrev pub decreases-messages : goal.decreases-messages
decreases-messages l = potential l.state
