use Rattle.flow_network.specs.Cut.{set_of}
use Rattle.flow_network.proofs.Growing.{sides_grow}
use Rattle.plain_cut.proofs.both.cut_again.Goals as goal

pub returns-clause-within : goal.returns-clause-within
returns-clause-within c =
    sides_grow c.args.net.now c.args.more.now (set_of c.in_ok-lower.lower.items) (set_of c.in_ok-upper.upper.items) c.requires.limits c.requires.extras
    c.in_ok-lower.ensures.smallest c.in_ok-upper.ensures.smallest.least
