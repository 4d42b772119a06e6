use Rattle.cut_in_blocks.specs.Takes.{IsTakenIn}
use Rattle.cut_in_blocks.proofs.Taking.{EmptyBelow}
use Rattle.cut_in_blocks.proofs.messages.take_row.Given as goal

abbrev pub invariant-ways : goal.invariant-ways
invariant-ways l = IsTakenIn l.fn.state l.state l.some × EmptyBelow l.state l.from l.to l.some
