use Rattle.vision.specs.Inputs.{AreSeeds}
use Rattle.vision.proofs.Refusing.{segment_finished, segment_refused}
use Rattle.std.proofs.lemmas.Result.{IfOk-from_err, err_from_is_err_and}
use Rattle.std.proofs.Common.{inl, inr, refl}
use Rattle.vision.proofs.Metrics.{pair_tells_none}
use Rattle.vision.proofs.segment.part_input.Goals as goal

pub returns-clause-refused : goal.returns-clause-refused
returns-clause-refused g c =
    let marks : AreSeeds c.in_ok-picture.seeds = rw c.samples.ensures.value at c.in_default.ensures in
    segment_refused (g.H.How.refuses c.args.how.now) c.args.options.now c.args.input.now c.in_ok-picture.picture c.in_ok-picture.seeds c.part.result
    c.in_ok-picture.ensures.held.0 c.in_ok-picture.ensures.held.1 marks c.part.ensures.run

pub returns-in_err-picture-clause-finished : goal.returns-in_err-picture-clause-finished
returns-in_err-picture-clause-finished g c = IfOk-from_err _ _ c.from_residual.ensures.0

pub returns-in_err-picture-clause-metric : goal.returns-in_err-picture-clause-metric
returns-in_err-picture-clause-metric g c =
    let p = err_from_is_err_and c.from_residual.result c.from_residual.ensures.1 in
    rw (p.1, p.2) (pair_tells_none c.args.input.now _ c.in_err-picture.ensures.refused)

pub returns-clause-finished : goal.returns-clause-finished
returns-clause-finished g c =
    let marks : AreSeeds c.in_ok-picture.seeds = rw c.samples.ensures.value at c.in_default.ensures in
    segment_finished (g.H.How.refuses c.args.how.now) c.args.options.now c.args.input.now c.in_ok-picture.picture c.in_ok-picture.seeds c.part.result c.in_ok-picture.ensures.held.0 c.in_ok-picture.ensures.held.1 marks c.part.ensures.run

pub returns-clause-metric : goal.returns-clause-metric
returns-clause-metric g c = c.part.ensures.metric

pub returns-in-Some : goal.returns-in-Some
returns-in-Some g c = record {
  finished = tt;
  refused = inr (inl (
    c.in-Some.index,
    (c.in_ok-picture.picture, c.in_ok-picture.seeds, c.in_ok-picture.ensures.held.0, c.in_ok-picture.ensures.held.1, rw c.samples.ensures.value at c.in-Some.ensures),
    refl,
  ));
  metric = λ tells. tells;
}

pub part-requires : goal.part-requires
part-requires g c = record { options = c.requires.options; sizes = c.in_ok-picture.ensures.held.1; ready = c.requires.ready }

pub returns-in_err-picture-clause-refused : goal.returns-in_err-picture-clause-refused
returns-in_err-picture-clause-refused g c =
    let p = err_from_is_err_and c.from_residual.result c.from_residual.ensures.1 in
    rw (p.1, p.2) (inl c.in_err-picture.ensures.refused)
