-- The form of a move, and what its numbers tell of the energies of the labellings that it makes.
use Rattle.std.specs.Prelude.{◌≡◌, ℕ, ◌+◌, ◌<◌, ◌≤◌, Bool, false, true, ℤ, ◌-ℤ◌, ◌≤ℤ◌}
use Rattle.label_energies.specs.declared.change.Move.{Move}
use Rattle.label_energies.specs.Energies.{Instance, IsInstance}
use Rattle.label_energies.specs.Moves.{IsAllowed}
use Rattle.move_energy.specs.declared.by_site.Neighbours.{Neighbours}
use Rattle.move_energy.specs.BySite.{AreNeighboursOf, neighbours_start, neighbour_at, is_first}
use Rattle.move_energy.specs.BySite.{weight_at}
use Rattle.move_energy.specs.Assignments.{IsSubmodular, IsOver}
use Rattle.move_energy.specs.MoveValues.{move_value, data_rise}
use Rattle.move_energy.specs.Rising.{label_rise}
use Rattle.site_forms.specs.Forms.{Form, TellsRises, form_value}

-- by how much a pair's cost rises where the site turns that has this neighbour at a place, while
-- the neighbour's value is this bit: by the labels of both, the pair's weight and its first end
abbrev pub end_rise_at : Instance → Move → (ℕ → ℕ) → Neighbours → Bool → ℕ → ℕ → ℤ
end_rise_at m move f ends bit u place =
    label_rise m move (weight_at ends place) (is_first ends u place) (f u)
    (f (neighbour_at ends place)) bit

-- the form of a move from a labelling
abbrev pub move_form : Instance → Move → (ℕ → ℕ) → Neighbours → Form
move_form m move f ends = record {
  sites = m.sites;
  start = neighbours_start ends;
  head = neighbour_at ends;
  own = data_rise m move f;
  low = end_rise_at m move f ends false;
  high = end_rise_at m move f ends true;
}

-- it tells the rises of the energies of the labellings that the move makes
abbrev pub FormTellsMove : Type 0
FormTellsMove =
    (m : Instance) (move : Move) (f : ℕ → ℕ) (ends : Neighbours) → IsInstance m
    → AreNeighboursOf m ends → TellsRises (move_form m move f ends) (move_value m move f)

-- where each pair's term is regular, no neighbour that turns makes a rise larger
abbrev pub PlacesFall : Type 0
PlacesFall =
    (m : Instance) (move : Move) (f : ℕ → ℕ) (ends : Neighbours) (u place : ℕ) → IsInstance m
    → AreNeighboursOf m ends → IsAllowed m move f → u < m.sites → neighbours_start ends u ≤ place
    → place < neighbours_start ends (u + 1)
    → end_rise_at m move f ends true u place ≤ℤ end_rise_at m move f ends false u place

-- a function of the sites is submodular where no neighbour that turns makes a rise larger
abbrev pub ToldIsSubmodular : Type 0
ToldIsSubmodular =
    (form : Form) (E : (ℕ → Bool) → ℤ) → TellsRises form E → IsOver form.sites E
    → ((u place : ℕ) → u < form.sites → form.start u ≤ place → place < form.start (u + 1)
    → form.high u place ≤ℤ form.low u place) → IsSubmodular E

-- the numbers tell the function but for what it is where all sites are 0
abbrev pub ToldIsForm : Type 0
ToldIsForm =
    (form : Form) (E : (ℕ → Bool) → ℤ) → TellsRises form E → IsOver form.sites E
    → (x : ℕ → Bool) → form_value form x ≡ E x -ℤ E (λ p. false)

-- so the value of a move's form is the difference of two energies: that of the labelling that the
-- values make, and that of the labelling that all sites at 0 make
abbrev pub FormTellsDifference : Type 0
FormTellsDifference =
    (m : Instance) (move : Move) (f : ℕ → ℕ) (ends : Neighbours) → IsInstance m
    → AreNeighboursOf m ends → (x : ℕ → Bool)
    → form_value (move_form m move f ends) x
    ≡ move_value m move f x -ℤ move_value m move f (λ p. false)
