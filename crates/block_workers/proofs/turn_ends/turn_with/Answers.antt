use Rattle.block_workers.proofs.turn_ends.turn_with.Goals as goal

pub returns-clause-some : goal.returns-clause-some
returns-clause-some c = λ some e sure. c.turn_from-back.ensures.some some e (rw c.take_all.ensures sure)
