use Rattle.std.proofs.Common.{◌≡◌, ◌≤◌, true, length}
use Rattle.label_energies.specs.Energies.{labelling}
use Rattle.site_bounds.specs.Linked.{AreLinkedFrom}
use Rattle.site_bounds.proofs.label_sites.link_each.Given as goal

abbrev pub invariant-loop-site : goal.invariant-loop-site
invariant-loop-site l = record {
  within : l.site ≤ length l.at;
  firsts_len : length l.firsts ≡ 256;
  nexts_len : length l.nexts ≡ length l.at;
  linked : AreLinkedFrom (λ _. true) l.site (length l.at) (labelling l.at) l.firsts l.nexts;
}

abbrev pub decreases-loop-site : goal.decreases-loop-site
decreases-loop-site l = l.site
