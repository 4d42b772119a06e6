use Rattle.std.proofs.lemmas.Result.{err_from_is_err_and}
use Rattle.gco_arrays.proofs.Given.{list_refused}
use Rattle.gco_arrays.proofs.pairs.pairs_of.Goals as goal

pub returns-in_err-add_pair-clause-refused : goal.returns-in_err-add_pair-clause-refused
returns-in_err-add_pair-clause-refused c =
    let p = err_from_is_err_and c.from_residual.result c.from_residual.ensures.1 in
    rw (p.1, p.2) (list_refused c.args.sites c.args.given.now c.loop-place.pairs c.loop-place.place _ c.in_err-add_pair.field-0.0 c.requires c.loop-place-test.true
    c.loop-place.invariant c.in_err-add_pair.ensures.known c.in_err-add_pair.ensures.refused)
