use Rattle.site_bounds.proofs.sites.read_costs.Goals as goal

pub read_among-requires-clause-covers : goal.read_among-requires-clause-covers
read_among-requires-clause-covers g c κs within = c.requires.covers (rw c.in-Swap.is tt)
