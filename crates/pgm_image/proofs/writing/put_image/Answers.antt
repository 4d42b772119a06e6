use Rattle.std.proofs.Common.{◌≡◌, ◌≤◌, ◌++◌, ◌*◌, ◌∙◌, [], length, ap, sym, arith}
use Rattle.std.proofs.lemmas.List.{append-nil}
use Rattle.pgm_image.specs.Written.{header_text}
use Rattle.pgm_image.specs.Raster.{raster}
use Rattle.pgm_image.proofs.Rasters.{raster_length}
use Rattle.pgm_image.proofs.Stops.{stops_later}
use Rattle.pgm_image.proofs.writing.put_image.Goals as goal

pub overflow_add-result : goal.overflow_add-result
overflow_add-result g c =
    let most = raster_length c.maxval.result c.samples.result.now in
    let few = c.samples.ensures.valid in
    let count : length c.samples.result.now ≡ length c.args.image.now.samples = ap length c.samples.ensures.value in
    omega (arith, most, count, few.3, few.0.4, c.in-Err-put_raster.ensures.stops.0, ap length c.deref.ensures.0, ap length c.as_bytes-text.ensures.value, c.header_of-header.ensures.len)

pub returns-in-Err-put_raster-clause-stops : goal.returns-in-Err-put_raster-clause-stops
returns-in-Err-put_raster-clause-stops g c =
    let image = c.args.image.now in
    let head : c.as_bytes-text.result.now ≡ header_text image = c.as_bytes-text.ensures.value ∙ c.deref.ensures.0 ∙ c.header_of-header.ensures.bytes in
    let body : raster c.maxval.result c.samples.result.now ≡ raster image.maxval image.samples = (λ i. raster (c.maxval.ensures i) (c.samples.ensures.value i)) in
    stops_later _ _ _ (header_text image) (raster image.maxval image.samples) [] _ (length c.as_bytes-text.result.now) c.in-Err-put_raster.failed.count
    (rw head at c.in-Ok.ensures.takes) (ap length head) (rw body at c.in-Err-put_raster.ensures.stops)
    (ap (λ ys. header_text image ++ ys) (sym (append-nil (raster image.maxval image.samples))))
