use Rattle.std.proofs.Common.{rules}
use Rattle.gco_calls.proofs.stretch.tell_pause.Goals as goal

pub returns : goal.returns
returns c = search rules
