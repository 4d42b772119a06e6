use Rattle.persistency.proofs.Agreeing.{forced_agree}
use Rattle.persistency.proofs.laws.forced_agree.Goals as goal

pub returns : goal.returns
returns c = forced_agree
