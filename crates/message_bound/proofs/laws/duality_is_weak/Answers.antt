use Rattle.message_bound.proofs.Duality.{weak_duality}
use Rattle.message_bound.proofs.laws.duality_is_weak.Goals as goal

pub returns : goal.returns
returns c = weak_duality
