use Rattle.std.proofs.lemmas.Result.{err_from_is_err_and}
use Rattle.pgm_image.specs.Written.{written_form}
use Rattle.vision.proofs.Writing.{stop_told}
use Rattle.vision.proofs.job.put_finished.Goals as goal

pub returns-in_err-put_image-clause-stops : goal.returns-in_err-put_image-clause-stops
returns-in_err-put_image-clause-stops g c =
    let p = err_from_is_err_and c.from_residual.result c.from_residual.ensures.1 in
    let old = g.S.Sink.stream c.args.sink.now in
    let new = g.S.Sink.stream c.put_image.new.sink in
    rw (p.1, p.2) (stop_told old new (written_form c.args.finished.now.image) _ c.in_err-put_image.ensures.stops)
