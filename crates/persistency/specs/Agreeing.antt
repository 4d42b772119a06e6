-- Choices that are right for good, each for itself: persistency, or partial optimality (Boros and
-- Hammer 2002; Kohli, Shekhovtsov, Rother, Kolmogorov, Torr, ICML 2008).
use Rattle.std.specs.Prelude.{◌≡◌, ◌⊎◌, ◌==◌, ℕ, ◌<◌, Bool, true, false, cond, List, ℤ, pos, ◌≤ℤ◌}
use Rattle.std.specs.Prelude.{◌<ℤ◌}
use Rattle.move_energy.specs.declared.choice.Choice.{Choice}
use Rattle.move_energy.specs.declared.choice.Choice.TheVariants.{Open, Zero, One}
use Rattle.move_energy.specs.Choices.{bit_of, choice_of}
use Rattle.move_energy.specs.Assignments.{rise}
use Rattle.site_bounds.specs.Decisions.{Decision, with_decisions}
use Rattle.persistency.specs.Fixing.{with_choices, AreLeastZeros, AreLeastOnes}

-- the choices agree with the least assignment with the fewest ones
pub record Agree (n : ℕ) (E : (ℕ → Bool) → ℤ) (choice : ℕ → Choice) : Type 0 where
  pub zeros : AreLeastZeros n E choice
  pub ones : AreLeastOnes n E choice

-- what is chosen at a variable is what agreeing choices have there
abbrev pub IsAgreed : ℕ → ((ℕ → Bool) → ℤ) → ℕ → Choice → Type 0
IsAgreed n E p chosen = (choice : ℕ → Choice) × Agree n E choice × (choice p ≡ chosen)

-- some choices are opened again, and the others stay
abbrev pub AreOpened : ℕ → (ℕ → Choice) → (ℕ → Choice) → Type 0
AreOpened n old new = (p : ℕ) → p < n → (new p ≡ Open) ⊎ (new p ≡ old p)

-- what the first have chosen, the second have chosen too
abbrev pub ChooseMore : ℕ → (ℕ → Choice) → (ℕ → Choice) → Type 0
ChooseMore n old new = (p : ℕ) → p < n → new p ≡ Open → old p ≡ Open

-- the choices are those that the decisions make
abbrev pub AreOfDecisions : ℕ → List Decision → (ℕ → Choice) → Type 0
AreOfDecisions n ds choice = (x : ℕ → Bool) (p : ℕ) → p < n
    → with_decisions ds x p ≡ bit_of (choice p) (x p)

-- the test of one variable: it may be 0 where its turning to 1 does not lower the value even if
-- every other open one is 1, and is to be 1 where it lowers the value even if every other open one
-- is 0
abbrev pub TellsOne : ((ℕ → Bool) → ℤ) → (ℕ → Choice) → ℕ → Bool → Type 0
TellsOne E choice p false = pos 0 ≤ℤ rise E p (with_choices choice (λ k. true))
TellsOne E choice p true = rise E p (with_choices choice (λ k. false)) <ℤ pos 0

-- the choices with one variable chosen
abbrev pub with_one : (ℕ → Choice) → ℕ → Bool → ℕ → Choice
with_one choice p value k = cond (k == p) (choice_of value) (choice k)

-- what is chosen, and where nothing is, what the other has
abbrev pub or_else : Choice → Choice → Choice
or_else Open other = other
or_else Zero other = Zero
or_else One other = One

-- choices, and where they are open, others
abbrev pub choices_or : (ℕ → Choice) → (ℕ → Choice) → ℕ → Choice
choices_or choice other p = or_else (choice p) (other p)
