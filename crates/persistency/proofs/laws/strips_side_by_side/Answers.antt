use Rattle.persistency.proofs.Strips.{strips_agree}
use Rattle.persistency.proofs.laws.strips_side_by_side.Goals as goal

pub returns : goal.returns
returns c = strips_agree
