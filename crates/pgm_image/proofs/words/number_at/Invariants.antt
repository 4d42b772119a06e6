use Rattle.std.proofs.Common.{◌≡◌, ◌≤◌, length}
use Rattle.pgm_image.specs.Words.{number_at}
use Rattle.pgm_image.specs.declared.words.Place.TheVariants.{Start}
use Rattle.pgm_image.proofs.words.number_at.Given as goal

abbrev pub invariant-loop-rest : goal.invariant-loop-rest
invariant-loop-rest l = (number_at l.place l.rest ≡ number_at Start l.bytes) × (length l.rest ≤ length l.bytes)

abbrev pub decreases-loop-rest : goal.decreases-loop-rest
decreases-loop-rest l = length l.rest
