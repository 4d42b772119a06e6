use Rattle.std.proofs.Common.{◌≡◌, ◌≤◌, ℕ, [], length, take, unsigned_abs}
use Rattle.label_energies.specs.Energies.{Instance}
use Rattle.cost_store.specs.Posed.{IsMeant}
use Rattle.site_forms.specs.Fields.{own_at}
use Rattle.form_lists.specs.Lists.{AreRisesNear}
use Rattle.form_lists.specs.OwnRises.{IsOff}
use Rattle.form_lists.proofs.lists.add_own_rises.Given as goal

abbrev pub invariant-loop-place : goal.invariant-loop-place
invariant-loop-place g l = record {
  count : length l.own ≡ length l.at;
  small : (u : ℕ) → unsigned_abs (own_at l.own u) ≤ 10000000;
  others : (u : ℕ) → IsOff l.sites u → own_at l.own u ≡ own_at l.fn.own u;
  rises : (m : Instance) → IsMeant g.F.Fn g.V.Fn l.problem m → AreRisesNear m l.change l.at l.fn.own []
      → AreRisesNear m l.change l.at l.own (take l.place l.sites);
}
