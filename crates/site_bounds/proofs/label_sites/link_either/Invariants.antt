use Rattle.std.proofs.Common.{◌≡◌, ◌≤◌, length, get_or}
use Rattle.label_energies.specs.Energies.{labelling}
use Rattle.site_bounds.specs.Linked.{AreLinkedFrom, is_either_label}
use Rattle.site_bounds.proofs.label_sites.link_either.Given as goal

abbrev pub invariant-loop-left : goal.invariant-loop-left
invariant-loop-left l = record {
  within : l.left ≤ length l.sites;
  firsts_len : length l.firsts ≡ 256;
  nexts_len : length l.nexts ≡ length l.at;
  linked : AreLinkedFrom (is_either_label l.one l.other) (get_or l.sites l.left (length l.at)) (length l.at) (labelling l.at) l.firsts l.nexts;
}

abbrev pub decreases-loop-left : goal.decreases-loop-left
decreases-loop-left l = l.left
