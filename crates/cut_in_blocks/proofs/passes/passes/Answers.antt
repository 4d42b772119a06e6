use Rattle.std.proofs.Common.{rules}
use Rattle.cut_in_blocks.proofs.passes.passes.Goals as goal

pub returns-clause-going : goal.returns-clause-going
returns-clause-going c = c.more_passes-ways.ensures.going

pub returns-clause-still : goal.returns-clause-still
returns-clause-still c = search rules
