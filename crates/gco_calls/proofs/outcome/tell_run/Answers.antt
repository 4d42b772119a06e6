use Rattle.std.proofs.Common.{rules}
use Rattle.gco_calls.proofs.outcome.tell_run.Goals as goal

pub returns : goal.returns
returns c = search rules
