use Rattle.std.proofs.Common.{arith}
use Rattle.label_energies.proofs.Places.{expansions-length, expansion_at}
use Rattle.label_energies.proofs.cycles.Moves.move_at.Goals as goal

pub returns-in-Expansion-clause-below : goal.returns-in-Expansion-clause-below
returns-in-Expansion-clause-below c =
    let within = rw (c.in-Expansion.is, expansions-length c.args.labels) at c.requires in omega (arith, within)

pub returns-in-Expansion-clause-at : goal.returns-in-Expansion-clause-at
returns-in-Expansion-clause-at c = rw (c.in-Expansion.is) (expansion_at c.args.labels c.args.place (returns-in-Expansion-clause-below c))
