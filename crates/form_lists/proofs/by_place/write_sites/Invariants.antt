use Rattle.label_energies.specs.Energies.{Instance}
use Rattle.cost_store.specs.Posed.{IsMeant}
use Rattle.site_forms.specs.Fields.{AreListedRises, AreRisesBelow}
use Rattle.form_lists.proofs.by_place.write_sites.Given as goal

abbrev pub invariant-loop-site : goal.invariant-loop-site
invariant-loop-site g l = record {
  listed : AreListedRises l.ends l.rises;
  read : (m : Instance) → IsMeant g.F.Fn g.V.Fn l.problem m → AreRisesBelow l.site m l.change l.ends l.at l.rises;
}
