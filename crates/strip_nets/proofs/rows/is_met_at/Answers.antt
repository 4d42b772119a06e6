use Rattle.std.proofs.Common.{◌∙◌, Bool, sym, ap, arith}
use Rattle.std.specs.Prelude.{◌&&◌}
use Rattle.move_energy.specs.BySite.{is_first}
use Rattle.strip_nets.proofs.Meeting.{met_where}
use Rattle.strip_nets.proofs.rows.is_met_at.Goals as goal

pub returns-then-not-inside : goal.returns-then-not-inside
returns-then-not-inside c =
    let a = c.args in
    sym (ap (λ (b : Bool). b && is_first a.material.now.form.ends.now a.site a.place) c.if-not-inside.true)
    ∙ met_where a.material.now a.sites.now a.site a.place a.head a.inside c.requires.can c.requires.site.0 c.requires.site.1 c.requires.place.0 c.requires.place.1 c.requires.head c.requires.inside

pub returns : goal.returns
returns c =
    let a = c.args in
    c.is_first_end.ensures ∙ sym (ap (λ (b : Bool). b && is_first a.material.now.form.ends.now a.site a.place) c.if-not-inside.false)
    ∙ met_where a.material.now a.sites.now a.site a.place a.head a.inside c.requires.can c.requires.site.0 c.requires.site.1 c.requires.place.0 c.requires.place.1 c.requires.head c.requires.inside

pub is_first_end-requires-clause-place : goal.is_first_end-requires-clause-place
is_first_end-requires-clause-place c = record { inside = omega (arith, c.requires.site.0, c.requires.can.over.sites); from = c.requires.place.0; to = c.requires.place.1 }
