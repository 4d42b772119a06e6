use Rattle.cut_in_blocks.specs.Takes.{IsTakenIn}
use Rattle.cut_in_blocks.proofs.Taking.{QuietBelow}
use Rattle.cut_in_blocks.proofs.messages.take_all.Given as goal

abbrev pub invariant-rows : goal.invariant-rows
invariant-rows l = IsTakenIn l.fn.state l.state l.some × QuietBelow l.state l.from l.some
