use Rattle.block_split.specs.Split.{whole_of}
use Rattle.net_in_blocks.specs.ByBlock.{IsTelling}
use Rattle.net_in_blocks.proofs.by_block.tell_block.Given as goal

abbrev pub invariant-borders : goal.invariant-borders
invariant-borders l = IsTelling (whole_of l.net l.initial.parts) (whole_of l.net l.parts) l.block l.j
