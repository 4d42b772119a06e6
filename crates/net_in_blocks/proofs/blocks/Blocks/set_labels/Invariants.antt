use Rattle.net_in_blocks.proofs.ByBlock.{IsRelabelledBelow}
use Rattle.net_in_blocks.proofs.blocks.Blocks.set_labels.Given as goal

abbrev pub invariant-each : goal.invariant-each
invariant-each l = IsRelabelledBelow l.initial.self l.self l.labels l.block
