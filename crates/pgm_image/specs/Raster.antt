-- Samples as bytes.
use Rattle.std.specs.Prelude.{ℕ, List, [], ◌∷◌, length, get_or, ◌≤◌, ◌<◌, ◌+◌, ◌*◌, ◌/◌, ◌%◌}
use Rattle.std.specs.Prelude.{nat_lt, ⊤, if◌then◌else◌}
use Rattle.pgm_image.specs.declared.error.PgmError.{PgmError}
use Rattle.pgm_image.specs.declared.error.PgmError.TheVariants.{OutOfMemory, SampleAboveMax}

-- each sample as two bytes, the most significant first
unfoldable pub as_two_bytes : List ℕ → List ℕ
as_two_bytes [] = []
as_two_bytes (x ∷ xs) = x / 256 ∷ (x % 256 ∷ as_two_bytes xs)

-- the raster of these samples
abbrev pub raster : ℕ → List ℕ → List ℕ
raster m xs = if nat_lt m 256 then xs else as_two_bytes xs

-- the samples that two bytes each tell
unfoldable pub doubles : List ℕ → List ℕ
doubles [] = []
doubles (a ∷ []) = []
doubles (a ∷ b ∷ bs) = (256 * a + b) ∷ doubles bs

-- the first sample above maxval
pub record IsFirstAbove (m : ℕ) (xs : List ℕ) (i : ℕ) : Type 0 where
  pub within : i < length xs
  pub above : m < get_or xs i 0
  pub before : (k : ℕ) → k < i → get_or xs k 0 ≤ m

abbrev pub RefusesSamples : ℕ → List ℕ → PgmError → Type 0
RefusesSamples m xs OutOfMemory = ⊤
RefusesSamples m xs (SampleAboveMax i) = IsFirstAbove m xs i
RefusesSamples m xs _ = ⊥

-- how many bytes a raster takes
abbrev pub raster_size : ℕ → ℕ → ℕ
raster_size count m = if nat_lt m 256 then count else 2 * count

-- the samples of a raster
abbrev pub samples_in : ℕ → List ℕ → List ℕ
samples_in m bytes = if nat_lt m 256 then bytes else doubles bytes
