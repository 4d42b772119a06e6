use Rattle.persistency.proofs.Strips.{strip_agrees, lower_agrees, upper_agrees}
use Rattle.persistency.proofs.laws.strip_agrees.Goals as goal

pub returns : goal.returns
returns c = record { both = strip_agrees; lower = lower_agrees; upper = upper_agrees }
