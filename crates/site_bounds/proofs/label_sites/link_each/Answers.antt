use Rattle.std.proofs.Common.{◌∙◌, ap, length, arith}
use Rattle.std.proofs.lemmas.List.{length-replicate}
use Rattle.label_energies.specs.Energies.{labelling}
use Rattle.site_bounds.proofs.Links.{none_linked}
use Rattle.site_bounds.proofs.label_sites.link_each.Goals as goal

pub loop-site-init : goal.loop-site-init
loop-site-init c =
    let a = c.args in
    record {
      within = omega arith;
      firsts_len = ap length c.requires.none ∙ length-replicate 256 (length a.at.now);
      nexts_len = c.requires.size;
      linked = none_linked (length a.at.now) (labelling a.at.now) a.firsts.now a.nexts.now c.requires.none;
    }
