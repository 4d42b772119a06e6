use Rattle.std.proofs.Common.{◌≡◌, ◌≤◌, ◌<◌, ◌+◌, ◌*◌, ◌++◌, List, ℕ, length}
use Rattle.std.specs.Prelude.{All}
use Rattle.byte_streams.specs.Streams.{Takes}
use Rattle.pgm_image.specs.Raster.{raster}
use Rattle.pgm_image.proofs.writing.put_raster.Given as goal

abbrev pub invariant-loop-rest : goal.invariant-loop-rest
invariant-loop-rest g l = (front : List ℕ) × Takes (g.S.Sink.stream l.initial.sink) (g.S.Sink.stream l.sink) (raster l.maxval front)
    × (front ++ l.rest ≡ l.samples) × (l.taken ≡ length (raster l.maxval front)) × (l.taken + 2 * length l.rest < 1099511627776) × All (λ x. x ≤ l.maxval) l.rest
    × (g.S.Sink.loan l.sink ≡ g.S.Sink.loan l.initial.sink)

abbrev pub decreases-loop-rest : goal.decreases-loop-rest
decreases-loop-rest g l = length l.rest
