-- The numbers of a move.
use Rattle.std.proofs.Common.{◌≡◌, ◌≢◌, ◌==◌, ℕ, ◌+◌, ◌<◌, ◌≤◌, Bool, true, false, cond, ℤ, pos, ◌+ℤ◌, ◌-ℤ◌, ◌≤ℤ◌, refl, sym, ap, ◌∙◌, inl, inr, arith}
use Rattle.std.proofs.lemmas.Int.{ints}
use Rattle.sums.proofs.IntegerSumLemmas.{int_sum_below-same}
use Rattle.label_field.specs.PairLists.{IsPair}
use Rattle.label_energies.specs.declared.change.Move.{Move}
use Rattle.label_energies.specs.Energies.{Instance, IsInstance}
use Rattle.label_energies.specs.Moves.{label_after, IsRegularPair, IsAllowed}
use Rattle.move_energy.specs.declared.by_site.Neighbours.{Neighbours}
use Rattle.move_energy.specs.BySite.{AreNeighboursOf, degree, neighbours_start, neighbour_at, is_first, weight_at, pair_from, pair_beside, pair_of}
use Rattle.move_energy.proofs.Parts.{beside_has, pair_has}
use Rattle.move_energy.specs.Ends.{AreEnds}
use Rattle.move_energy.specs.MoveValues.{move_value, data_rise, pair_rise}
use Rattle.move_energy.specs.Rising.{label_rise}
use Rattle.move_energy.proofs.Rising.{move_over}
use Rattle.move_energy.proofs.SiteSums.{asked_rise, risen_all, test_true, test_false}
use Rattle.site_forms.specs.Forms.{TellsRises, place_rise, form_value}
use Rattle.site_forms.specs.MoveForms.{move_form, end_rise_at}
use Rattle.site_forms.proofs.Told.{told_value}

-- the ends of a pair that is told by one of them
pub from_ends : (first : Bool) (u head weight : ℕ) → AreEnds (pair_from first u head weight) u head
from_ends true u head weight = inl (refl, refl)
from_ends false u head weight = inr (refl, refl)

-- the first of them is told, where they are unequal
from_first : (first : Bool) (u head weight : ℕ) → (pair_from first u head weight).first ≢ (pair_from first u head weight).second
    → ((pair_from first u head weight).first == u) ≡ first
from_first true u head weight apart = test_true u u refl
from_first false u head weight apart = test_false head u apart

from_weight : (first : Bool) (u head weight : ℕ) → (pair_from first u head weight).weight ≡ weight
from_weight true u head weight = refl
from_weight false u head weight = refl

by_bit : (b : Bool) (g : Bool → ℤ) → cond b (g true) (g false) ≡ g b
by_bit true g = refl
by_bit false g = refl

-- what stands at a place is by how much the pair's cost rises
place_is : (m : Instance) (move : Move) (f : ℕ → ℕ) (ends : Neighbours) (u place : ℕ) (x : ℕ → Bool) → IsPair m.sites (pair_beside ends u place)
    → place_rise (move_form m move f ends) x u place ≡ pair_rise m move f u x (pair_beside ends u place)
place_is m move f ends u place x is =
    let first = is_first ends u place in
    let head = neighbour_at ends place in
    let weight = weight_at ends place in
    by_bit (x head) (λ b. end_rise_at m move f ends b u place)
    ∙ (λ i. label_rise m move (sym (from_weight first u head weight) i) (sym (from_first first u head weight is.unequal) i) (f u) (f head) (x head))
    ∙ asked_rise m move f u head x (pair_beside ends u place) (label_after move (f u) false) (label_after move (f u) true) (label_after move (f head) (x head))
    (from_ends first u head weight) is.unequal (refl, refl) refl

pub form_tells : (m : Instance) (move : Move) (f : ℕ → ℕ) (ends : Neighbours) → IsInstance m → AreNeighboursOf m ends → TellsRises (move_form m move f ends) (move_value m move f)
form_tells m move f ends pairs by_site u x inside =
    sym (risen_all m move f ends u x pairs by_site inside)
    ∙ ap (λ z. data_rise m move f u +ℤ z)
    (int_sum_below-same (degree ends u) (λ i. pair_rise m move f u x (pair_of ends u i)) (λ i. place_rise (move_form m move f ends) x u (neighbours_start ends u + i))
    (λ i l. sym (place_is m move f ends u (neighbours_start ends u + i) x (pair_has (IsPair m.sites) (record { sites = m.sites; list = m.pairs; numbered = false }) ends u i pairs by_site inside l))))

-- of a regular term
first_falls : (a b c d : ℕ) → a + d ≤ b + c → (pos d -ℤ pos b) ≤ℤ (pos c -ℤ pos a)
first_falls a b c d regular = omega (arith, ints, regular)

from_falls : (m : Instance) (move : Move) (f : ℕ → ℕ) (first : Bool) (u head weight : ℕ) → IsRegularPair m move f (pair_from first u head weight)
    → label_rise m move weight first (f u) (f head) true ≤ℤ label_rise m move weight first (f u) (f head) false
from_falls m move f true u head weight regular = omega (arith, ints, regular)
from_falls m move f false u head weight regular = omega (arith, ints, regular)

pub places_fall : (m : Instance) (move : Move) (f : ℕ → ℕ) (ends : Neighbours) (u place : ℕ) → IsInstance m → AreNeighboursOf m ends → IsAllowed m move f → u < m.sites
    → neighbours_start ends u ≤ place → place < neighbours_start ends (u + 1) → end_rise_at m move f ends true u place ≤ℤ end_rise_at m move f ends false u place
places_fall m move f ends u place pairs by_site allowed inside from to =
    from_falls m move f (is_first ends u place) u (neighbour_at ends place) (weight_at ends place)
    (beside_has (IsRegularPair m move f) (record { sites = m.sites; list = m.pairs; numbered = false }) ends u place allowed by_site inside from to)

pub form_difference : (m : Instance) (move : Move) (f : ℕ → ℕ) (ends : Neighbours) → IsInstance m → AreNeighboursOf m ends → (x : ℕ → Bool)
    → form_value (move_form m move f ends) x ≡ move_value m move f x -ℤ move_value m move f (λ p. false)
form_difference m move f ends pairs by_site = told_value (move_form m move f ends) (move_value m move f) (form_tells m move f ends pairs by_site) (move_over m move f pairs)
