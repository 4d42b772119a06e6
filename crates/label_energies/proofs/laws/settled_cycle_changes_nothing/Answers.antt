use Rattle.std.proofs.Common.{arith}
use Rattle.label_energies.proofs.Chains.{leads_nowhere, leads_back}
use Rattle.label_energies.proofs.laws.settled_cycle_changes_nothing.Goals as goal

pub returns : goal.returns
returns c = record { same = leads_back; best = λ m moves f leads. leads_nowhere m moves f f leads (omega arith) }
