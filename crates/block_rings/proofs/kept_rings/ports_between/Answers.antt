use Rattle.std.proofs.Common.{rules}
use Rattle.block_rings.proofs.kept_rings.ports_between.Goals as goal

-- found without help too: written so that a wrong step is refused at once
pub returns-in-Some-clause-used : goal.returns-in-Some-clause-used
returns-in-Some-clause-used c = search rules

pub returns-in-Some-clause-refused : goal.returns-in-Some-clause-refused
returns-in-Some-clause-refused c = search rules
