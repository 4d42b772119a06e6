-- The energies of the labellings that a move makes, as a function of the sites' values.
use Rattle.std.specs.Prelude.{ℕ, Bool, true, false, ℤ, pos, ◌-ℤ◌}
use Rattle.label_field.specs.declared.pair.Pair.{Pair}
use Rattle.label_energies.specs.declared.change.Move.{Move}
use Rattle.label_energies.specs.Energies.{Instance, plain_energy, pair_cost}
use Rattle.label_energies.specs.Moves.{label_after, labelling_made}
use Rattle.move_energy.specs.Assignments.{set_bit}

-- what the labels that a value for each site makes cost the sites and the pairs
abbrev pub move_value : Instance → Move → (ℕ → ℕ) → (ℕ → Bool) → ℤ
move_value m move f x = pos (plain_energy m (labelling_made move f x))

-- how much more the label costs a site where its value turns from 0 to 1
abbrev pub data_rise : Instance → Move → (ℕ → ℕ) → ℕ → ℤ
data_rise m move f u =
    pos (m.data_cost u (label_after move (f u) true))
    -ℤ pos (m.data_cost u (label_after move (f u) false))

-- how much more a pair costs where the value of one site turns
abbrev pub pair_rise : Instance → Move → (ℕ → ℕ) → ℕ → (ℕ → Bool) → Pair → ℤ
pair_rise m move f u x pair =
    pos (pair_cost m (labelling_made move f (set_bit x u true)) pair)
    -ℤ pos (pair_cost m (labelling_made move f (set_bit x u false)) pair)
