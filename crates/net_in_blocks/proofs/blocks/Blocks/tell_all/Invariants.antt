use Rattle.net_in_blocks.proofs.ByBlock.{IsToldBelow}
use Rattle.net_in_blocks.proofs.blocks.Blocks.tell_all.Given as goal

abbrev pub invariant-each : goal.invariant-each
invariant-each l = IsToldBelow l.initial.self l.self l.block
