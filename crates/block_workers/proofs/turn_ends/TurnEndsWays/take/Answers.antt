use Rattle.block_workers.proofs.Looking.{same_more}
use Rattle.block_workers.proofs.turn_ends.TurnEndsWays.take.Goals as goal

pub invariant_of-self : goal.invariant_of-self
invariant_of-self g c = same_more _ _ _ c.self.invariant c.take.ensures.same
