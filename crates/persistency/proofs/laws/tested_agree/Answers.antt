use Rattle.persistency.proofs.Strips.{tested_agree}
use Rattle.persistency.proofs.laws.tested_agree.Goals as goal

pub returns : goal.returns
returns c = tested_agree
