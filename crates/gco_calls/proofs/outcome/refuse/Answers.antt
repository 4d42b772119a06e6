use Rattle.std.proofs.Common.{rules}
use Rattle.gco_calls.proofs.outcome.refuse.Goals as goal

pub returns-clause-told : goal.returns-clause-told
returns-clause-told c = search rules
