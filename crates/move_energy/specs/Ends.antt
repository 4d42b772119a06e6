-- A pair at one of its two ends.
use Rattle.std.specs.Prelude.{◌≡◌, ◌≢◌, ◌⊎◌, ℕ, ◌+◌, ◌*◌, ◌<◌, ◌≤◌, Bool, true, false, List, ℤ, pos}
use Rattle.std.specs.Prelude.{◌-ℤ◌}
use Rattle.label_field.specs.declared.pair.Pair.{Pair}
use Rattle.label_energies.specs.declared.change.Move.{Move}
use Rattle.label_energies.specs.Energies.{Instance}
use Rattle.label_energies.specs.Moves.{label_after}
use Rattle.cost_store.specs.Limits.{site_cost_limit, pair_cost_limit}
use Rattle.move_energy.specs.declared.by_site.Neighbours.{Neighbours}
use Rattle.move_energy.specs.declared.choice.Choice.{Choice}
use Rattle.move_energy.specs.declared.choice.Choice.TheVariants.{Open}
use Rattle.move_energy.specs.BySite.{degree, neighbours_start, pair_beside}
use Rattle.move_energy.specs.Choices.{bit_of, choice_at}

-- the two sites are the ends of the pair
abbrev pub AreEnds : Pair → ℕ → ℕ → Type 0
AreEnds pair site other =
    ((pair.first ≡ site) × (pair.second ≡ other)) ⊎ ((pair.first ≡ other) × (pair.second ≡ site))

-- the site is no end of the pair
abbrev pub AvoidsSite : ℕ → Pair → Type 0
AvoidsSite u pair = (pair.first ≢ u) × (pair.second ≢ u)

-- no open site before this one has a pair with it
abbrev pub HasNoneBefore : List Choice → Neighbours → ℕ → Type 0
HasNoneBefore choices ends site =
    (place u : ℕ) → neighbours_start ends site ≤ place
    → place < neighbours_start ends (site + 1) → u < site
    → choice_at choices u ≡ Open → AvoidsSite u (pair_beside ends site place)

-- the most that the energy rises or falls by where a site turns
abbrev pub rise_limit : Neighbours → ℕ → ℕ
rise_limit ends site = site_cost_limit + pair_cost_limit * degree ends site

-- the labels that the move gives a site of this label, at 0 and at 1
abbrev pub AreTwoLabels : Move → ℕ → ℕ → ℕ → Type 0
AreTwoLabels move old stays turns =
    (stays ≡ label_after move old false) × (turns ≡ label_after move old true)

-- by how much a pair's cost rises where its first end, or its second, turns from the one label to
-- the other
abbrev pub end_rise : Instance → ℕ → Bool → ℕ → ℕ → ℕ → ℤ
end_rise m weight true stays turns other =
    pos (m.smooth_cost weight turns other) -ℤ pos (m.smooth_cost weight stays other)
end_rise m weight false stays turns other =
    pos (m.smooth_cost weight other turns) -ℤ pos (m.smooth_cost weight other stays)

-- the decided sites have their values, and all others this one
abbrev pub decided_or : List Choice → Bool → ℕ → Bool
decided_or choices b p = bit_of (choice_at choices p) b
