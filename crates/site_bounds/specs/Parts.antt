-- Deciding by numbers alone, which threads can read.
use Rattle.std.specs.Prelude.{◌≡◌, ◌≢◌, ◌⊎◌, ◌==◌, ℕ, ◌<◌, ◌≤◌, Bool, false, List, length}
use Rattle.std.specs.Prelude.{ℤ, ◌-ℤ◌}
use Rattle.label_energies.specs.declared.change.Move.{Move}
use Rattle.label_energies.specs.Energies.{Instance, labelling}
use Rattle.move_energy.specs.declared.choice.Choice.{Choice}
use Rattle.move_energy.specs.declared.choice.Choice.TheVariants.{Open}
use Rattle.move_energy.specs.Choices.{bit_of, choice_at}
use Rattle.move_energy.specs.Weights.{open_energy}
use Rattle.site_bounds.specs.Decisions.{Decision, with_decisions, Passes, HavePassed}
use Rattle.move_energy.specs.MoveValues.{move_value}
use Rattle.site_forms.specs.declared.numbers.SiteForm.{SiteForm}
use Rattle.site_forms.specs.Numbers.{IsFormOf, WhereRead}

-- the choices are those of decisions that each passed the test, given those before it
pub record ArePassedChoices (m : Instance) (move : Move) (f : ℕ → ℕ)
    (choice : ℕ → Choice) : Type 0 where
  pub decisions : List Decision
  pub passed : HavePassed (move_value m move f) decisions
  pub shown : (x : ℕ → Bool) (p : ℕ) → p < m.sites
      → with_decisions decisions x p ≡ bit_of (choice p) (x p)

-- decisions that each passed the test become more of them
abbrev pub KeepsPassed : SiteForm → List Choice → List Choice → Type 0
KeepsPassed form old new = WhereRead form (λ m move f.
    ArePassedChoices m move f (choice_at old) → ArePassedChoices m move f (choice_at new))

-- what was known stays
abbrev pub KeepsKnown : List Choice → List Choice → Type 0
KeepsKnown old new = (p : ℕ) → choice_at old p ≢ Open → choice_at new p ≡ choice_at old p

-- open sites from one on, before another, are decided by numbers alone: each whose value could be
-- told by what was known before, and no other site
pub record IsSwept (form : SiteForm) (from to : ℕ) (old new : List Choice) : Type 0 where
  pub count : length new ≡ length old
  pub outside : (p : ℕ) → (p < from) ⊎ (to ≤ p) → choice_at new p ≡ choice_at old p
  pub kept : KeepsKnown old new
  pub passed : KeepsPassed form old new
  pub tried : (m : Instance) (move : Move) (p : ℕ) (b : Bool) → IsFormOf m move form
      → (ds : ArePassedChoices m move (labelling form.at.now) (choice_at old))
      → from ≤ p → p < to
      → Passes (move_value m move (labelling form.at.now)) ds.decisions p b
      → choice_at new p ≢ Open

-- what an open site weighs: by how much the energy rises where it turns from 0 to 1, every other
-- open one being at 0
abbrev pub site_weight : Instance → Move → (ℕ → ℕ) → (ℕ → Choice) → ℕ → ℤ
site_weight m move f choice u =
    open_energy m move f choice (λ p. p == u) -ℤ open_energy m move f choice (λ p. false)
