use Rattle.std.proofs.Common.{arith}
use Rattle.label_energies.specs.Energies.{labelling}
use Rattle.site_bounds.proofs.Links.{linked_more}
use Rattle.site_bounds.proofs.label_sites.link_site.Goals as goal

pub returns-clause-linked : goal.returns-clause-linked
returns-clause-linked c = λ some is linked.
    let a = c.args in
    linked_more some a.site _ (labelling a.at.now) a.firsts.now a.nexts.now c.requires.site (omega (arith, c.type_inv.at a.site)) c.requires.sizes.0
    (omega (arith, c.requires.site, c.requires.sizes.1)) is linked
