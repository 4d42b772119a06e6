use Rattle.std.proofs.Common.{rules}
use Rattle.move_energy.proofs.choice.Choice.bit.Goals as goal

pub returns-in-One : goal.returns-in-One
returns-in-One c = search rules
