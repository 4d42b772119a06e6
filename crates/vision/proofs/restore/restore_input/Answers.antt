use Rattle.std.proofs.Common.{arith, inl, inr, refl}
use Rattle.vision.proofs.Refusing.{restore_finished, restore_refused}
use Rattle.std.proofs.lemmas.Result.{IfOk-from_err, err_from_is_err_and}
use Rattle.pgm_image.specs.Front.{RefusesFront}
use Rattle.vision.proofs.Metrics.{image_tells_none}
use Rattle.vision.proofs.restore.restore_input.Goals as goal

pub returns-clause-refused : goal.returns-clause-refused
returns-clause-refused g c =
    restore_refused (g.H.How.refuses c.args.how.now) c.args.options.now c.args.input.now c.in_ok-picture.picture c.restore.result c.in_ok-picture.ensures.held (omega arith) c.restore.ensures.run

pub returns-then-maxval-gt-LEVEL_LIMIT-clause-refused : goal.returns-then-maxval-gt-LEVEL_LIMIT-clause-refused
returns-then-maxval-gt-LEVEL_LIMIT-clause-refused g c =
    inr (inl ((c.in_ok-picture.picture, c.in_ok-picture.ensures.held, omega (arith, c.maxval.ensures)), refl))

pub returns-in_err-picture-clause-finished : goal.returns-in_err-picture-clause-finished
returns-in_err-picture-clause-finished g c = IfOk-from_err _ _ c.from_residual.ensures.0

pub returns-in_err-picture-clause-metric : goal.returns-in_err-picture-clause-metric
returns-in_err-picture-clause-metric g c =
    let p = err_from_is_err_and c.from_residual.result c.from_residual.ensures.1 in
    λ apart. rw (p.1, p.2) (image_tells_none (RefusesFront c.args.input.now) _ c.in_err-picture.ensures.refused)

pub returns-clause-finished : goal.returns-clause-finished
returns-clause-finished g c =
    restore_finished (g.H.How.refuses c.args.how.now) c.args.options.now c.args.input.now c.in_ok-picture.picture c.restore.result c.in_ok-picture.ensures.held (omega arith) c.restore.ensures.run

pub returns-clause-metric : goal.returns-clause-metric
returns-clause-metric g c = c.restore.ensures.metric

pub restore-requires-clause-options : goal.restore-requires-clause-options
restore-requires-clause-options g c = c.requires.options

pub restore-requires-clause-ready : goal.restore-requires-clause-ready
restore-requires-clause-ready g c = c.requires.ready

pub returns-in_err-picture-clause-refused : goal.returns-in_err-picture-clause-refused
returns-in_err-picture-clause-refused g c =
    let p = err_from_is_err_and c.from_residual.result c.from_residual.ensures.1 in
    rw (p.1, p.2) (inl c.in_err-picture.ensures.refused)
