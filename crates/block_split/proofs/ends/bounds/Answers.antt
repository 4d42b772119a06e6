use Rattle.std.proofs.Common.{rules}
use Rattle.block_split.proofs.ends.bounds.Goals as goal

pub returns-clause-next : goal.returns-clause-next
returns-clause-next c = search rules
