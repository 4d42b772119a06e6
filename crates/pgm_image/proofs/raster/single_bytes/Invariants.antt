use Rattle.std.proofs.Common.{◌≡◌, ◌≤◌, take, length}
use Rattle.std.specs.Prelude.{All}
use Rattle.std.specs.Vec.{vec_capacity}
use Rattle.pgm_image.proofs.raster.single_bytes.Given as goal

abbrev pub invariant-loop-byte : goal.invariant-loop-byte
invariant-loop-byte l = (l.samples.items ≡ take l.byte-index l.raster) × All (λ x. x ≤ l.maxval) l.samples.items
    × (length l.raster ≤ vec_capacity l.samples)
