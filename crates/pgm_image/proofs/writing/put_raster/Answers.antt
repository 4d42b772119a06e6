use Rattle.std.proofs.Common.{◌≡◌, ◌≤◌, ◌++◌, ◌+◌, [], ℕ, arith, refl, sym, ap, ◌∙◌, append_assoc, length, length-append}
use Rattle.std.proofs.lemmas.List.{take-append-drop}
use Rattle.std.proofs.lemmas.List.Elements.{All-drop}
use Rattle.std.proofs.KnownBytes.{Appends-nil}
use Rattle.pgm_image.specs.Raster.{raster}
use Rattle.pgm_image.proofs.Rasters.{raster_append, raster_none, raster_length}
use Rattle.pgm_image.proofs.Stops.{stops_later, takes_both}
use Rattle.pgm_image.proofs.writing.put_raster.Goals as goal

pub loop-rest-init : goal.loop-rest-init
loop-rest-init g c = (
  [],
  (rw (raster_none c.args.maxval) (Appends-nil _), refl),
  refl,
  rw (raster_none c.args.maxval) refl,
  omega (arith, c.requires.size),
  c.requires.small,
  refl,
)

pub loop-rest-preserved : goal.loop-rest-preserved
loop-rest-preserved g c =
    let front = c.loop-rest.invariant.0 in
    let part = c.split_at.result.0.now in
    let after = c.split_at.result.1.now in
    let piece = c.as_slice-bytes.ensures.value ∙ c.raster_of-piece.ensures in
    let joined : part ++ after ≡ c.loop-rest.rest.now = rw (c.split_at.ensures.front, c.split_at.ensures.back) (take-append-drop c.min.result c.loop-rest.rest.now) in
    let whole : raster c.args.maxval (front ++ part) ≡ raster c.args.maxval front ++ raster c.args.maxval part = raster_append c.args.maxval front part in
    let size : length (raster c.args.maxval (front ++ part)) ≡ length (raster c.args.maxval front) + length (raster c.args.maxval part) = ap length whole ∙ length-append (raster c.args.maxval front) (raster c.args.maxval part) in
    let e = ap length piece in (
      front ++ part,
      rw whole (takes_both _ _ _ _ _ c.loop-rest.invariant.1 (rw piece at c.in-Ok.ensures.takes)),
      append_assoc front part after ∙ ap (λ ys. front ++ ys) joined ∙ c.loop-rest.invariant.2,
      omega (arith, size, e, c.loop-rest.invariant.3),
      omega (arith, e, raster_length c.args.maxval part, c.split_at.ensures.front_len, c.split_at.ensures.back_len, c.loop-rest.invariant.4),
      rw c.split_at.ensures.back (All-drop (λ x. x ≤ c.args.maxval) c.min.result c.loop-rest.rest.now c.loop-rest.invariant.5),
      c.in-Ok.ensures.kept ∙ c.loop-rest.invariant.6,
    )

pub returns-in-Err-clause-stops : goal.returns-in-Err-clause-stops
returns-in-Err-clause-stops g c =
    let m = c.args.maxval in
    let front = c.loop-rest.invariant.0 in
    let part = c.split_at.result.0.now in
    let after = c.split_at.result.1.now in
    let piece = c.as_slice-bytes.ensures.value ∙ c.raster_of-piece.ensures in
    let joined : part ++ after ≡ c.loop-rest.rest.now = rw (c.split_at.ensures.front, c.split_at.ensures.back) (take-append-drop c.min.result c.loop-rest.rest.now) in
    let whole : raster m c.args.samples.now ≡ raster m front ++ (raster m part ++ raster m after) =
    ap (λ ys. raster m ys) (sym c.loop-rest.invariant.2 ∙ ap (λ ys. front ++ ys) (sym joined)) ∙ raster_append m front (part ++ after) ∙ ap (λ ys. raster m front ++ ys) (raster_append m part after) in
    stops_later _ _ _ (raster m front) (raster m part) (raster m after) (raster m c.args.samples.now) c.loop-rest.taken c.in-Err.failed.count
    c.loop-rest.invariant.1 c.loop-rest.invariant.3 (rw piece at c.in-Err.ensures.stops) whole
