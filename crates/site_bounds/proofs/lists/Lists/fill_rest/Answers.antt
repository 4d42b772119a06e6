use Rattle.std.proofs.Common.{rules}
use Rattle.site_bounds.proofs.Among.{covers_open}
use Rattle.site_bounds.proofs.lists.Lists.fill_rest.Goals as goal

pub count_among-self-requires : goal.count_among-self-requires
count_among-self-requires c = record { among = covers_open c.args.change c.args.at.now c.args.choices.now c.args.swapped.now c.requires.sites.0 (c.requires.among (rw c.in-Swap.is tt)) }

pub returns-clause-lists : goal.returns-clause-lists
returns-clause-lists c = search rules
