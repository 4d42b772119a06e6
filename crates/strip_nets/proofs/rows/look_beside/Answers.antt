use Rattle.std.proofs.Common.{sym}
use Rattle.strip_nets.proofs.Behind.{no_one, no_beyond, no_met}
use Rattle.strip_nets.proofs.rows.look_beside.Goals as goal

pub returns-then-head-site-clause-one : goal.returns-then-head-site-clause-one
returns-then-head-site-clause-one c =
    let a = c.args in
    sym (no_one a.material.now a.sites.now a.untold a.site a.head c.requires.untold c.requires.site.1 c.if-head-untold.true c.if-head-site.true)

pub returns-then-head-site-clause-beyond : goal.returns-then-head-site-clause-beyond
returns-then-head-site-clause-beyond c =
    let a = c.args in
    sym (no_beyond a.material.now a.sites.now a.untold a.site a.head c.requires.untold c.requires.site.1 c.if-head-untold.true c.if-head-site.true)

pub returns-then-head-site-clause-met : goal.returns-then-head-site-clause-met
returns-then-head-site-clause-met c =
    let a = c.args in
    sym (no_met a.material.now a.sites.now a.untold a.site a.place a.head c.requires.can c.requires.untold c.requires.site.0 c.requires.site.1 c.requires.place.0 c.requires.place.1 c.requires.head c.if-head-untold.true c.if-head-site.true)
