use Rattle.vision.proofs.Refusing.{stereo_finished, stereo_refused}
use Rattle.std.proofs.lemmas.Result.{IfOk-from_err, err_from_is_err_and}
use Rattle.std.proofs.Common.{inl}
use Rattle.vision.proofs.Metrics.{pair_tells_none}
use Rattle.vision.proofs.stereo.match_input.Goals as goal

pub returns-clause-refused : goal.returns-clause-refused
returns-clause-refused g c =
    stereo_refused (g.H.How.refuses c.args.how.now) c.args.options.now c.args.input.now c.in_ok-left.left c.in_ok-left.right c.match_pictures.result c.in_ok-left.ensures.held.0 c.in_ok-left.ensures.held.1 c.match_pictures.ensures.run

pub returns-in_err-left-clause-finished : goal.returns-in_err-left-clause-finished
returns-in_err-left-clause-finished g c = IfOk-from_err _ _ c.from_residual.ensures.0

pub returns-in_err-left-clause-metric : goal.returns-in_err-left-clause-metric
returns-in_err-left-clause-metric g c =
    let p = err_from_is_err_and c.from_residual.result c.from_residual.ensures.1 in
    λ apart. rw (p.1, p.2) (pair_tells_none c.args.input.now _ c.in_err-left.ensures.refused)

pub returns-clause-finished : goal.returns-clause-finished
returns-clause-finished g c =
    stereo_finished (g.H.How.refuses c.args.how.now) c.args.options.now c.args.input.now c.in_ok-left.left c.in_ok-left.right c.match_pictures.result c.in_ok-left.ensures.held.0 c.in_ok-left.ensures.held.1 c.match_pictures.ensures.run

pub returns-clause-metric : goal.returns-clause-metric
returns-clause-metric g c = c.match_pictures.ensures.metric

pub match_pictures-requires : goal.match_pictures-requires
match_pictures-requires g c = record { options = c.requires.options; sizes = c.in_ok-left.ensures.held.1; ready = c.requires.ready }

pub returns-in_err-left-clause-refused : goal.returns-in_err-left-clause-refused
returns-in_err-left-clause-refused g c =
    let p = err_from_is_err_and c.from_residual.result c.from_residual.ensures.1 in
    rw (p.1, p.2) (inl c.in_err-left.ensures.refused)
