use Rattle.std.proofs.Common.{rules}
use Rattle.gco_calls.proofs.moving.tell_move.Goals as goal

pub returns : goal.returns
returns c = search rules
