-- Rises that are listed place by place.
use Rattle.std.proofs.Common.{◌≡◌, ◌⊎◌, ℕ, ◌+◌, ◌<◌, ◌≤◌, ◌∙◌, List, length, pos, unsigned_abs, sym, ap, subst, inl, inr, arith}
use Rattle.std.specs.Prelude.{slice_set}
use Rattle.std.proofs.lemmas.Bool.{cases_eq}
use Rattle.std.proofs.lemmas.List.{get_or-set_same, get_or-set_other}
use Rattle.label_energies.specs.declared.change.Move.{Move}
use Rattle.label_energies.specs.Energies.{Instance}
use Rattle.cost_store.specs.Limits.{pair_cost_limit}
use Rattle.move_energy.specs.declared.by_site.Neighbours.{Neighbours}
use Rattle.move_energy.specs.declared.rises.EndRises.{EndRises}
use Rattle.move_energy.specs.BySite.{neighbours_start}
use Rattle.site_forms.specs.Fields.{ArePlaces, rises_in, AreRisesSmall, AreRisesOf, AreRisesBelow}
use Rattle.site_forms.proofs.Places.{starts_up}

-- one place is written
pub written_here : (old : List EndRises) (place : ℕ) (rises : EndRises) → place < length old → rises_in (slice_set old place rises) place ≡ rises
written_here old place rises inside = get_or-set_same old place rises (record { low = pos 0; high = pos 0 }) inside

pub written_other : (old : List EndRises) (place p : ℕ) (rises : EndRises) → ¬ (p ≡ place) → rises_in (slice_set old place rises) p ≡ rises_in old p
written_other old place p rises other = get_or-set_other old place p rises (record { low = pos 0; high = pos 0 }) other

pub small_still : (old : List EndRises) (place : ℕ) (rises : EndRises) → place < length old → unsigned_abs rises.low ≤ pair_cost_limit → unsigned_abs rises.high ≤ pair_cost_limit
    → AreRisesSmall old → AreRisesSmall (slice_set old place rises)
small_still old place rises inside low high small p =
    let P : EndRises → Type 0 = λ r. (unsigned_abs r.low ≤ pair_cost_limit) × (unsigned_abs r.high ≤ pair_cost_limit) in
    elim (cases_eq p place) [
      | inl same ↦ subst P (sym (ap (rises_in (slice_set old place rises)) same ∙ written_here old place rises inside)) (low, high)
      | inr other ↦ subst P (sym (written_other old place p rises other)) (small p)
    ]

pub one_place_more : (m : Instance) (move : Move) (ends : Neighbours) (at : List ℕ) (u from place : ℕ) (old : List EndRises) (rises : EndRises) → place < length old
    → ((p : ℕ) → from ≤ p → p < place → AreRisesOf m move ends at u p (rises_in old p)) → AreRisesOf m move ends at u place rises
    → (p : ℕ) → from ≤ p → p < place + 1 → AreRisesOf m move ends at u p (rises_in (slice_set old place rises) p)
one_place_more m move ends at u from place old rises inside before here p least below = elim (cases_eq p place) [
  | inl same ↦
      let P : ℕ → Type 0 = λ q. AreRisesOf m move ends at u q (rises_in (slice_set old place rises) q) in
      let R : EndRises → Type 0 = λ r. AreRisesOf m move ends at u place r in
      subst P (sym same) (subst R (sym (written_here old place rises inside)) here)
  | inr other ↦
      let R : EndRises → Type 0 = λ r. AreRisesOf m move ends at u p r in
      subst R (sym (written_other old place p rises other)) (before p least (omega (arith, below, other)))
]

-- ---- site by site

pub one_site_more : (m : Instance) (move : Move) (ends : Neighbours) (at : List ℕ) (n site : ℕ) (old new : List EndRises) → ArePlaces n ends → site < n
    → AreRisesBelow site m move ends at old
    → ((place : ℕ) → neighbours_start ends site ≤ place → place < neighbours_start ends (site + 1) → AreRisesOf m move ends at site place (rises_in new place))
    → ((place : ℕ) → (place < neighbours_start ends site) ⊎ (neighbours_start ends (site + 1) ≤ place) → rises_in new place ≡ rises_in old place)
    → AreRisesBelow (site + 1) m move ends at new
one_site_more m move ends at n site old new are inside before here others u place below from to = elim (cases_eq u site) [
  | inl same ↦
      let P : ℕ → Type 0 = λ v. AreRisesOf m move ends at v place (rises_in new place) in
      let start = ap (neighbours_start ends) same in
      let end = ap (λ v. neighbours_start ends (v + 1)) same in
      subst P (sym same) (here place (omega (arith, from, start)) (omega (arith, to, end)))
  | inr other ↦
      let R : EndRises → Type 0 = λ r. AreRisesOf m move ends at u place r in
      let up = starts_up n ends (u + 1) site are (omega (arith, below, other)) (omega (arith, inside)) in
      subst R (sym (others place (inl (omega (arith, to, up))))) (before u place (omega (arith, below, other)) from to)
]
