use Rattle.block_rings.proofs.join.join_all.Goals as goal

pub returns : goal.returns
returns c = c.join_by.ensures
