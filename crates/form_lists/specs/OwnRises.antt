-- What labels cost sites, where few of them were read.
use Rattle.std.specs.Prelude.{◌≡◌, ◌≢◌, ◌<◌, ℕ, ℤ, pos, All, List, length, slice_index}
use Rattle.site_forms.specs.Fields.{own_at}

-- a site is none of these
abbrev pub IsOff : List ℕ → ℕ → Type 0
IsOff sites u = (k : ℕ) → k < length sites → slice_index sites k ≢ u

-- all own rises are 0 but those of these sites
pub record AreZeroBut (own : List ℤ) (sites : List ℕ) : Type 0 where
  pub inside : All (λ p. p < length own) sites
  pub zeros : (u : ℕ) → IsOff sites u → own_at own u ≡ pos 0
