use Rattle.std.proofs.Common.{rules}
use Rattle.one_move.proofs.energy_change.is_negative.Goals as goal

pub returns : goal.returns
returns c = search rules
