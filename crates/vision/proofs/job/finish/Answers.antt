use Rattle.std.proofs.Common.{◌≡◌, ◌∙◌, length, ap}
use Rattle.vision.proofs.Images.{labels_fit}
use Rattle.std.proofs.lemmas.Result.{IfOk-from_err}
use Rattle.pgm_image.specs.Picture.{picture}
use Rattle.vision.proofs.job.finish.Goals as goal

pub new-requires : goal.new-requires
new-requires c =
    rw (c.width.ensures, c.height.ensures)
    (labels_fit c.args.source.now c.args.plan.maxval c.args.run.now.labelling.labels c.in_ok-samples.samples.items c.as_slice.result.now
    c.samples-valid.ensures.valid c.requires.maxval.0 c.requires.maxval.1 (ap length c.as_slice.ensures.value ∙ c.requires.sites)
    c.as_slice.ensures.below c.requires.labels c.in_ok-samples.ensures)

pub returns-in_err-samples : goal.returns-in_err-samples
returns-in_err-samples c =
    let e = c.from_residual.ensures.0 in
    record { image = IfOk-from_err _ _ e; valid = IfOk-from_err _ _ e; report = IfOk-from_err _ _ e }

pub returns-clause-image : goal.returns-clause-image
returns-clause-image c =
    let same : c.in_ok-samples.samples.items ≡ c.args.run.now.labelling.at = c.in_ok-samples.ensures ∙ c.as_slice.ensures.value in
    c.new.ensures ∙ (λ k. picture (c.width.ensures k) (c.height.ensures k) c.args.plan.maxval (same k))

pub returns-clause-valid : goal.returns-clause-valid
returns-clause-valid c =
    rw (c.new.ensures, c.width.ensures, c.height.ensures)
    (labels_fit c.args.source.now c.args.plan.maxval c.args.run.now.labelling.labels c.in_ok-samples.samples.items c.as_slice.result.now
    c.samples-valid.ensures.valid c.requires.maxval.0 c.requires.maxval.1 (ap length c.as_slice.ensures.value ∙ c.requires.sites)
    c.as_slice.ensures.below c.requires.labels c.in_ok-samples.ensures)
