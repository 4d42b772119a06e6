use Rattle.std.proofs.Common.{◌≡◌, ◌-◌, ◌≤◌, length}
use Rattle.std.specs.Prelude.{All}
use Rattle.std.specs.Vec.{vec_capacity}
use Rattle.pgm_image.specs.Reading.{plain_at, with_front}
use Rattle.pgm_image.proofs.plain.plain_samples.Given as goal

abbrev pub invariant-loop-index : goal.invariant-loop-index
invariant-loop-index l = (length l.rest ≤ length l.bytes) × (with_front l.samples.items (plain_at (l.count - l.index) l.maxval l.end l.index l.rest) ≡ plain_at l.count l.maxval l.end 0 l.bytes) × (length l.samples.items ≡ l.index) × All (λ y. y ≤ l.maxval) l.samples.items × (l.count ≤ vec_capacity l.samples)
