use Rattle.rounds.proofs.Callers.{alone_may_fail}
use Rattle.rounds.proofs.workers.WorkersRefDynGateSyncHow.solve.Goals as goal

pub returns-then-is_alone-clause-refused : goal.returns-then-is_alone-clause-refused
returns-then-is_alone-clause-refused g c = alone_may_fail c.args.self.now.options c.solve.result (c.is_alone.ensures.0 c.if-is_alone.true).0 c.solve.ensures.refused
