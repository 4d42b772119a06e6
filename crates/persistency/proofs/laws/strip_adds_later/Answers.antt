use Rattle.persistency.proofs.Strips.{strip_adds}
use Rattle.persistency.proofs.laws.strip_adds_later.Goals as goal

pub returns : goal.returns
returns c = strip_adds
