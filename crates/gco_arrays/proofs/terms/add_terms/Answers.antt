use Rattle.gco_arrays.proofs.Lists.{loop_refused}
use Rattle.std.proofs.lemmas.Result.{err_from_is_err_and}
use Rattle.gco_arrays.proofs.terms.add_terms.Goals as goal

pub returns-in_err-add_term-clause-refused : goal.returns-in_err-add_term-clause-refused
returns-in_err-add_term-clause-refused g c =
    let p = err_from_is_err_and c.from_residual.result c.from_residual.ensures.1 in
    rw (p.1, p.2) (loop_refused g.T.TermGiven.term c.args.energy.now c.loop-term.energy c.args.given.now c.loop-term.term-index c.term-item.result c.in_err-add_term.field-0.0
    c.loop-term-test.true c.loop-term.invariant c.term-item.is c.in_err-add_term.ensures.refused)
