-- What a strip tells, as lists hold it.
use Rattle.std.specs.Prelude.{◌≡◌, ◌↔◌, ℕ, ◌<◌, Bool, true, false, List, length, slice_index}
use Rattle.std.specs.Prelude.{slice_index_or}
use Rattle.std.specs.List.{Contains}
use Rattle.persistency.specs.Strips.{Strip}

-- the strip is that of the listed sites, each with its bounds at its place
pub record IsStripListed (sites : List ℕ) (below above : List Bool) (strip : Strip) : Type 0 where
  pub set : (p : ℕ) → strip.set p ≡ true ↔ Contains sites p
  pub lower : (i : ℕ) → i < length sites
      → strip.lower (slice_index sites i) ≡ slice_index_or below i false
  pub upper : (i : ℕ) → i < length sites
      → strip.upper (slice_index sites i) ≡ slice_index_or above i false
