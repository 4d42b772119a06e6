use Rattle.std.proofs.Common.{◌≡◌, length, arith, ap, ◌∙◌}
use Rattle.pgm_image.specs.Raster.{raster_size}
use Rattle.pgm_image.proofs.RasterReads.{raster_whole, raster_error, samples_length}
use Rattle.pgm_image.proofs.raster.raster_samples.Goals as goal

pub returns-in-Ok-clause-value : goal.returns-in-Ok-clause-value
returns-in-Ok-clause-value c =
    let size = c.raster_size-size.ensures in
    raster_whole c.args.count c.args.maxval c.args.bytes.now c.split_at.result.0.now c.split_at.result.1.now c.in-Ok.samples.items
    (omega (arith, size)) (rw size at c.split_at.ensures.front) (rw size at c.split_at.ensures.back) c.in-Ok.ensures.0 c.in-Ok.ensures.1

pub returns-in-Ok-clause-each : goal.returns-in-Ok-clause-each
returns-in-Ok-clause-each c =
    let sized : length c.split_at.result.0.now ≡ raster_size c.args.count c.args.maxval = c.split_at.ensures.front_len ∙ c.raster_size-size.ensures in
    (ap length c.in-Ok.ensures.0 ∙ samples_length c.args.count c.args.maxval c.split_at.result.0.now sized, rw c.in-Ok.ensures.0 c.in-Ok.ensures.1, omega (arith, c.split_at.ensures.back_len))

pub returns-in-Err-clause-value : goal.returns-in-Err-clause-value
returns-in-Err-clause-value c =
    let size = c.raster_size-size.ensures in
    raster_error c.args.count c.args.maxval c.args.bytes.now c.split_at.result.0.now c.split_at.result.1.now c.in-Err.e
    (omega (arith, size)) (rw size at c.split_at.ensures.front) (rw size at c.split_at.ensures.back) c.in-Err.ensures
