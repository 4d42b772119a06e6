-- The form of a strip less its border, and what its two sides bound.
use Rattle.std.specs.Prelude.{◌≡◌, ℕ, ◌<◌, List, slice_index, pos, ◌+ℤ◌, vec_len}
use Rattle.pseudo_bool.specs.Energies.{entry}
use Rattle.compile_cut.specs.declared.quadratic.Quadratic.{Quadratic}
use Rattle.persistency.specs.Forms.{IsReweighed}
use Rattle.persistency.specs.Strips.{Strip, IsStripBounded}
use Rattle.persistency.specs.Telling.{IsStripListed}
use Rattle.label_energies.specs.declared.change.Move.{Move}
use Rattle.label_energies.specs.Energies.{Instance}
use Rattle.plain_cut.specs.declared.both.BothSides.{BothSides}
use Rattle.move_energy.specs.declared.choice.Choice.{Choice}
use Rattle.move_energy.specs.Choices.{choice_at}
use Rattle.move_energy.specs.MoveValues.{move_value}

-- the same form, each weight less by the border of its node
pub record IsLessBorder (borders : List ℕ) (form less : Quadratic) : Type 0 where
  pub again : IsReweighed form less
  pub weights : (k : ℕ) → k < vec_len form.weights
      → entry less.weights.items k +ℤ pos (slice_index borders k) ≡ entry form.weights.items k

-- two sides bound the listed sites, with what was known then
abbrev pub AreBounds : Instance → Move → (ℕ → ℕ) → List Choice → List ℕ → BothSides → Type 0
AreBounds m move f known opened sides =
    (strip : Strip) × IsStripListed opened sides.lower.items sides.upper.items strip
    × IsStripBounded m.sites (move_value m move f) (choice_at known) strip
