-- What is known of a move that is closed in on strip by strip, and what a strip sees of it.
use Rattle.std.specs.Prelude.{◌≡◌, ◌≢◌, ℕ, ◌<◌, List, length, map, ℤ, pos, ◌-ℤ◌}
use Rattle.std.specs.List.{range_with_len}
use Rattle.label_energies.specs.declared.change.Move.{Move}
use Rattle.label_energies.specs.Energies.{Instance}
use Rattle.move_energy.specs.declared.choice.Choice.{Choice}
use Rattle.move_energy.specs.declared.choice.Choice.TheVariants.{Open, Zero}
use Rattle.move_energy.specs.Choices.{choice_at}
use Rattle.site_bounds.specs.Parts.{site_weight}
use Rattle.persistency.specs.Strips.{others_at}
use Rattle.persistency.specs.Borders.{range_of, border_at, not_ones}

-- more is known than at the start: what was chosen then stays
abbrev pub KeepsChosen : List Choice → List Choice → Type 0
KeepsChosen start known = (p : ℕ) → p < length known → choice_at start p ≢ Open
    → choice_at known p ≡ choice_at start p

-- what a strip sees that is a range of sites: what is known, and each open site outside it at 0
abbrev pub choices_seen : List Choice → ℕ → ℕ → ℕ → Choice
choices_seen known from to = others_at Zero (range_of from to) (choice_at known)

-- what a strip of a range of sites sees, in a list: each open site outside it is at 0
unfoldable pub strip_view : List Choice → ℕ → ℕ → List Choice
strip_view known from to = map (choices_seen known from to) (range_with_len 0 (length known))

-- the weight of a site by now: less by the surplus of its pairs to sites that were open at the
-- start and are at 1
abbrev pub weight_now : Instance → Move → (ℕ → ℕ) → (ℕ → Choice) → (ℕ → Choice) → ℕ → ℤ
weight_now m move f start now p =
    site_weight m move f start p -ℤ pos (border_at m move f start (not_ones now) p)
