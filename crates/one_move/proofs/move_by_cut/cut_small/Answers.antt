use Rattle.one_move.proofs.Answers.{refused_alone}
use Rattle.one_move.proofs.move_by_cut.cut_small.Goals as goal

pub returns-then-len-small-clause-refused : goal.returns-then-len-small-clause-refused
returns-then-len-small-clause-refused g c = refused_alone (g.H.How.refuses c.args.how.now) c.minimise.result c.minimise.ensures.refused
