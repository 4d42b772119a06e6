use Rattle.std.proofs.Common.{Bool}
use Rattle.block_events.specs.Soundness.{potential}
use Rattle.cut_in_blocks.specs.Takes.{IsTakenIn}
use Rattle.cut_in_blocks.proofs.messages.take_in.Given as goal

abbrev pub invariant-rounds : goal.invariant-rounds
invariant-rounds l = (some : Bool) × IsTakenIn l.fn.state l.state some

abbrev pub decreases-rounds : goal.decreases-rounds
decreases-rounds l = potential l.state
