use Rattle.plain_cut.proofs.Wider.{widened_none}
use Rattle.plain_cut.proofs.both.wider_side.Goals as goal

pub returns-then-are_none-clause-smallest : goal.returns-then-are_none-clause-smallest
returns-then-are_none-clause-smallest c =
    rw (widened_none c.args.net.now c.args.more.now c.requires.limits c.requires.extras (c.are_none.ensures.0 c.if-are_none.true)) c.least_side.ensures.smallest
