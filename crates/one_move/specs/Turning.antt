-- The sites of a move as they turn, one after another, from the values of the labels as they are to
-- their own.
use Rattle.std.specs.Prelude.{◌==◌, ℕ, nat_lt, Bool, not, cond, List, length, ℤ, pos, ◌-ℤ◌}
use Rattle.label_energies.specs.declared.change.Move.{Move}
use Rattle.label_energies.specs.Energies.{Instance, labelling, plain_energy}
use Rattle.label_energies.specs.Moves.{labelling_made}
use Rattle.move_energy.specs.declared.choice.Choice.{Choice}
use Rattle.move_energy.specs.Assignments.{IsOver}
use Rattle.site_forms.specs.declared.numbers.SiteForm.{SiteForm}
use Rattle.site_forms.specs.Numbers.{label_by, Tells}
use Rattle.one_move.specs.Building.{site_values}

-- does a site's value change its label?
abbrev pub turns_label : SiteForm → List Choice → ℕ → Bool
turns_label form choices p =
    not (label_by form (labelling form.at.now p) (site_values choices p) == labelling form.at.now p)

-- the values once the sites below u have turned: each other site whose label changes has the other
-- value, by which it keeps its label
abbrev pub turned_below : SiteForm → List Choice → ℕ → ℕ → Bool
turned_below form choices u p =
    cond (nat_lt p u) (site_values choices p)
    (cond (turns_label form choices p) (not (site_values choices p)) (site_values choices p))

-- this holds of each function of the sites whose rises the form tells
abbrev pub TellsOver : SiteForm → (((ℕ → Bool) → ℤ) → Type 0) → Type 0
TellsOver form P = Tells form (λ E. IsOver (length form.at.now) E → P E)

-- by how much more the labels that the values make cost the sites and the pairs
abbrev pub energy_rise : Instance → Move → (ℕ → ℕ) → List Choice → ℤ
energy_rise m move f choices =
    pos (plain_energy m (labelling_made move f (site_values choices))) -ℤ pos (plain_energy m f)
