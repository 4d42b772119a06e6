use Rattle.std.proofs.Common.{◌≡◌, ℕ, inl, rules}
use Rattle.std.proofs.lemmas.Result.{IfOk-from_err, IfErr-weaker, err_from_is_err_and}
use Rattle.byte_streams.specs.Streams.{Stops}
use Rattle.pgm_image.specs.Written.{written_form}
use Rattle.vision.specs.Faults.{HasRestoreError}
use Rattle.vision.specs.Inputs.{IsRestoreJob}
use Rattle.vision.specs.Jobs.{Job}
use Rattle.vision.proofs.Writing.{does, leaves, told_as_write}
use Rattle.vision.proofs.Metrics.{stop_tells_none}
use Rattle.vision.proofs.restore.run_restore.Goals as goal

pub returns-in_err-finished-clause-done : goal.returns-in_err-finished-clause-done
returns-in_err-finished-clause-done g c = IfOk-from_err _ _ c.from_residual.ensures.0

pub returns-in_err-finished-clause-refused : goal.returns-in_err-finished-clause-refused
returns-in_err-finished-clause-refused g c =
    let p = err_from_is_err_and c.from_residual.result c.from_residual.ensures.1 in
    rw (p.1, p.2) (inl c.in_err-finished.ensures.refused)

pub returns-in_err-finished-clause-unchanged : goal.returns-in_err-finished-clause-unchanged
returns-in_err-finished-clause-unchanged g c = search rules

pub returns-clause-done : goal.returns-clause-done
returns-clause-done g c =
    does (λ (job : Job). IsRestoreJob c.args.options.now c.args.input.now job) c.in_ok-finished.finished (g.S.Sink.stream c.args.sink.now) (g.S.Sink.stream c.put_finished.new.sink)
    c.put_finished.result c.in_ok-finished.ensures.finished c.put_finished.ensures.told c.put_finished.ensures.takes

pub returns-clause-refused : goal.returns-clause-refused
returns-clause-refused g c =
    leaves (λ (job : Job). IsRestoreJob c.args.options.now c.args.input.now job) (HasRestoreError (g.H.How.refuses c.args.how.now) c.args.options.now c.args.input.now) c.in_ok-finished.finished
    (g.S.Sink.stream c.args.sink.now) (g.S.Sink.stream c.put_finished.new.sink)
    c.put_finished.result c.in_ok-finished.ensures.finished c.put_finished.ensures.stops

pub returns-clause-unchanged : goal.returns-clause-unchanged
returns-clause-unchanged g c =
    told_as_write (λ (count : ℕ). Stops (g.S.Sink.stream c.args.sink.now) (g.S.Sink.stream c.put_finished.new.sink) (written_form c.in_ok-finished.finished.image) count)
    (c.put_finished.new.sink ≡ c.args.sink.now) c.put_finished.result c.put_finished.ensures.stops

pub returns-in_err-finished-clause-metric : goal.returns-in_err-finished-clause-metric
returns-in_err-finished-clause-metric g c =
    let p = err_from_is_err_and c.from_residual.result c.from_residual.ensures.1 in
    λ apart. rw (p.1, p.2) (c.in_err-finished.ensures.metric apart)

pub returns-clause-metric : goal.returns-clause-metric
returns-clause-metric g c = λ apart. IfErr-weaker c.put_finished.result _ _ (λ e stops. stop_tells_none _ e stops) c.put_finished.ensures.stops

pub returns-clause-kept : goal.returns-clause-kept
returns-clause-kept g c = c.put_finished.ensures.kept
