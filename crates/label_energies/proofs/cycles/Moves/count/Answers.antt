use Rattle.std.proofs.Common.{sym}
use Rattle.label_energies.proofs.Places.{expansions-length, swaps-length}
use Rattle.label_energies.proofs.cycles.Moves.count.Goals as goal

pub returns-in-Expansion : goal.returns-in-Expansion
returns-in-Expansion c = rw (c.in-Expansion.is) (sym (expansions-length c.args.labels))

pub returns-in-Swap : goal.returns-in-Swap
returns-in-Swap c = rw (c.in-Swap.is) (swaps-length c.args.labels c.requires.0)
