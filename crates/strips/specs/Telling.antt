-- What the two sides of a strip tell.
use Rattle.std.specs.Prelude.{◌≡◌, ℕ, ◌<◌, List, length}
use Rattle.persistency.specs.Agreeing.{choices_or}
use Rattle.persistency.specs.Strips.{Strip, told_by}
use Rattle.persistency.specs.Telling.{IsStripListed}
use Rattle.plain_cut.specs.declared.both.BothSides.{BothSides}
use Rattle.move_energy.specs.declared.choice.Choice.{Choice}
use Rattle.move_energy.specs.Choices.{choice_at}

-- what was known stays, and each listed site of which nothing was known is as the two sides tell
abbrev pub IsAsTold : List Choice → List Choice → List ℕ → BothSides → Type 0
IsAsTold known new opened sides =
    (strip : Strip) → IsStripListed opened sides.lower.items sides.upper.items strip
    → (p : ℕ) → p < length known → choice_at new p ≡ choices_or (choice_at known) (told_by strip) p
