use Rattle.std.proofs.Common.{◌≡◌, ◌⊎◌, ◌<◌, ◌≤◌, ℕ, length}
use Rattle.label_energies.specs.Energies.{Instance}
use Rattle.cost_store.specs.Posed.{IsMeant}
use Rattle.move_energy.specs.BySite.{neighbours_start}
use Rattle.site_forms.specs.Fields.{rises_in, AreRisesSmall, AreRisesOf}
use Rattle.form_lists.proofs.by_place.write_site.Given as goal

abbrev pub invariant-loop-place : goal.invariant-loop-place
invariant-loop-place g l = record {
  size : length l.rises ≡ length l.fn.rises;
  small : AreRisesSmall l.rises;
  here : (m : Instance) → IsMeant g.F.Fn g.V.Fn l.problem m → (p : ℕ) → neighbours_start l.ends l.site ≤ p → p < l.place
      → AreRisesOf m l.change l.ends l.at l.site p (rises_in l.rises p);
  others : (p : ℕ) → (p < neighbours_start l.ends l.site) ⊎ (l.place ≤ p) → rises_in l.rises p ≡ rises_in l.fn.rises p;
}
