use Rattle.std.proofs.Common.{get_or, arith}
use Rattle.move_energy.specs.Choices.{choice_at}
use Rattle.move_energy.proofs.Opened.{opened_has, open_true}
use Rattle.strip_nets.specs.Building.{view_by}
use Rattle.strip_nets.proofs.Sizes.{seen_length}
use Rattle.strip_nets.proofs.rows.site_at.Goals as goal

pub returns-clause-site : goal.returns-clause-site
returns-clause-site c =
    let a = c.args in
    let v = view_by a.sites.now a.material.now in
    let has = opened_has v a.sites.now.opened.now a.index c.requires.opened c.requires.index in
    (omega (arith, has.0, seen_length a.material.now a.sites.now c.requires.can), open_true (choice_at v (get_or a.sites.now.opened.now a.index 0)) has.1)
