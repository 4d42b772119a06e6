use Rattle.std.proofs.Common.{arith}
use Rattle.pgm_image.proofs.Rasters.{raster_goes, raster_done}
use Rattle.pgm_image.proofs.writing.raster_of.Goals as goal

pub loop-sample-preserved : goal.loop-sample-preserved
loop-sample-preserved c = (
  rw c.push_sample.ensures.bytes (raster_goes c.args.maxval c.loop-sample.sample-index c.loop-sample.bytes.items c.args.samples.now _ c.loop-sample-test.true c.loop-sample.invariant.0),
  omega (arith, c.push_sample.ensures.len, c.loop-sample.invariant.1),
)

pub returns : goal.returns
returns c = raster_done c.args.maxval c.loop-sample.sample-index c.loop-sample.bytes.items c.args.samples.now _ c.loop-sample-test.false c.loop-sample.invariant.0
