-- What the form of a partly decided move tells of its sites.
use Rattle.std.specs.Prelude.{◌≡◌, ◌&&◌, ℕ, ◌<◌, Bool, true, vec_len}
use Rattle.compile_cut.specs.declared.quadratic.Quadratic.{Quadratic}
use Rattle.move_energy.specs.declared.choice.Choice.{Choice}
use Rattle.move_energy.specs.Choices.{is_open}

-- each open site has the bit of its variable, and every other is 0
abbrev pub bits_by_site : (ℕ → Choice) → (ℕ → ℕ) → (ℕ → Bool) → ℕ → Bool
bits_by_site choice variable y p = is_open (choice p) && y (variable p)

-- the chosen ones of n sites and the first r variables are one to one
pub record IsOneToOne (n : ℕ) (chosen : ℕ → Bool) (r : ℕ) (variable site : ℕ → ℕ) : Type 0 where
  pub there : (p : ℕ) → p < n → chosen p ≡ true → (variable p < r) × (site (variable p) ≡ p)
  pub back : (k : ℕ) → k < r → (site k < n) × (chosen (site k) ≡ true) × (variable (site k) ≡ k)

-- the same form with other weights
pub record IsReweighed (old new : Quadratic) : Type 0 where
  pub constant : new.constant ≡ old.constant
  pub arcs : new.arcs ≡ old.arcs
  pub nodes : vec_len new.weights ≡ vec_len old.weights
