use Rattle.std.proofs.Common.{subst}
use Rattle.block_rings.specs.Links.{AreWithinRoom}
use Rattle.block_rings.proofs.Leaving.{left_ways, all_within, AnyLeft}
use Rattle.block_rings.proofs.rings.Rings.see.Goals as goal

pub returns-clause-left : goal.returns-clause-left
returns-clause-left c = subst AnyLeft c.self.view_is (left_ways _ c.self.invariant c.see_all.ensures.seen)

pub returns-clause-within : goal.returns-clause-within
returns-clause-within c = subst AreWithinRoom c.self.view_is (all_within _ c.self.invariant c.see_all.ensures.seen)
