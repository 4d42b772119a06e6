use Rattle.std.proofs.Common.{◌≡◌, ◌⊎◌, ◌-◌, length}
use Rattle.label_energies.specs.Energies.{labelling}
use Rattle.move_energy.specs.BySite.{IsListing}
use Rattle.site_bounds.specs.Linked.{IsNext, is_labelled}
use Rattle.site_bounds.specs.Swapped.{has_either}
use Rattle.site_bounds.proofs.label_sites.list_either.Given as goal

abbrev pub invariant-loop-site : goal.invariant-loop-site
invariant-loop-site l = record {
  first : IsNext (is_labelled l.one (labelling l.at)) (length l.at) l.site l.first;
  second : IsNext (is_labelled l.other (labelling l.at)) (length l.at) l.site l.second;
  least : (l.site ≡ l.first) ⊎ (l.site ≡ l.second);
  listed : IsListing (has_either l.one l.other (labelling l.at)) l.site l.list.items;
}

abbrev pub decreases-loop-site : goal.decreases-loop-site
decreases-loop-site l = length l.at - l.site
