use Rattle.std.proofs.Common.{◌≡◌, ◌≤◌, ◌<◌, ℕ, length, unsigned_abs}
use Rattle.label_energies.specs.Energies.{Instance, labelling}
use Rattle.cost_store.specs.Posed.{IsMeant}
use Rattle.move_energy.specs.MoveValues.{data_rise}
use Rattle.site_forms.specs.Fields.{own_at}
use Rattle.form_lists.proofs.lists.write_own_rises.Given as goal

abbrev pub invariant-loop-site : goal.invariant-loop-site
invariant-loop-site g l = record {
  count : length l.own ≡ length l.at;
  small : (u : ℕ) → u < l.site → unsigned_abs (own_at l.own u) ≤ 10000000;
  rises : (m : Instance) → IsMeant g.F.Fn g.V.Fn l.problem m → (u : ℕ) → u < l.site
      → own_at l.own u ≡ data_rise m l.change (labelling l.at) u;
}
