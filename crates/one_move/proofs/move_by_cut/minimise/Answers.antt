use Rattle.std.proofs.lemmas.Result.{err_from_is_err_and}
use Rattle.flow_network.specs.Cut.{set_of}
use Rattle.one_move.proofs.Answers.{cut_refused}
use Rattle.one_move.proofs.Least.{cut_least}
use Rattle.one_move.proofs.move_by_cut.minimise.Goals as goal

pub returns-clause-least : goal.returns-clause-least
returns-clause-least g c =
    cut_least c.args.form c.in_ok-compiled.compiled.net c.in_ok-compiled.compiled.constant (set_of c.in_ok-side.side.items) c.in_ok-compiled.ensures.nodes c.in_ok-compiled.ensures.value
    c.in_ok-side.ensures.smallest

pub returns-in_err-side-clause-refused : goal.returns-in_err-side-clause-refused
returns-in_err-side-clause-refused g c =
    let p = err_from_is_err_and c.from_residual-in_err-side.result c.from_residual-in_err-side.ensures.1 in
    rw p.1 (cut_refused (g.H.How.refuses c.args.how.now) c.in_err-side.field-0.0 p.0 p.2 c.in_err-side.ensures.refused)
