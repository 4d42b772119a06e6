use Rattle.std.proofs.Common.{◌≡◌, ◌<◌, ℕ, true, false}
use Rattle.std.specs.Prelude.{slice_index_or}
use Rattle.label_energies.specs.Energies.{Instance}
use Rattle.cost_store.specs.Posed.{IsMeant}
use Rattle.site_forms.specs.Fields.{AreSymmetric}
use Rattle.form_lists.specs.Lists.{HasCostOf, KeepsCostsOf, AreCostsSmall}
use Rattle.form_lists.proofs.smooth_costs.ask_beside.Given as goal

abbrev pub invariant-loop-other : goal.invariant-loop-other
invariant-loop-other g l = record {
  beside : (m : Instance) → IsMeant g.F.Fn g.V.Fn l.problem m → (other : ℕ) → other < l.other → slice_index_or l.labels other false ≡ true
      → HasCostOf m l.costs l.label other × HasCostOf m l.costs other l.label;
  kept : (m : Instance) → IsMeant g.F.Fn g.V.Fn l.problem m → KeepsCostsOf m l.fn.costs l.costs;
  small : AreCostsSmall l.fn.costs → AreCostsSmall l.costs;
  mirrored : l.symmetric ≡ true → AreSymmetric l.fn.costs → AreSymmetric l.costs;
}
