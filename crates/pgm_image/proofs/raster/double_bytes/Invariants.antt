use Rattle.std.proofs.Common.{◌≡◌, ◌≤◌, ◌+◌, ◌/◌, ◌++◌, length}
use Rattle.std.specs.Prelude.{All}
use Rattle.std.specs.Vec.{vec_capacity}
use Rattle.pgm_image.specs.Raster.{doubles}
use Rattle.pgm_image.proofs.raster.double_bytes.Given as goal

abbrev pub invariant-loop-rest : goal.invariant-loop-rest
invariant-loop-rest l = (doubles l.raster ≡ l.samples.items ++ doubles l.rest) × All (λ x. x ≤ l.maxval) l.samples.items
    × (length l.samples.items + length l.rest / 2 ≤ vec_capacity l.samples)

abbrev pub decreases-loop-rest : goal.decreases-loop-rest
decreases-loop-rest l = length l.rest
