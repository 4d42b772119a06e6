use Rattle.site_bounds.proofs.Among.{open_covers}
use Rattle.site_bounds.proofs.sites.decide_open.Goals as goal

pub decide_among-requires-clause-among : goal.decide_among-requires-clause-among
decide_among-requires-clause-among c = open_covers c.args.bounds.now.choices.items c.args.swapped.now (c.requires.listed (rw c.in-Swap.is tt))
