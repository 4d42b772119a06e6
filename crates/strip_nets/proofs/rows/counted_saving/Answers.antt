use Rattle.std.proofs.Common.{◌<◌, ◌∙◌, refl, arith}
use Rattle.label_energies.specs.Energies.{labelling}
use Rattle.move_energy.specs.BySite.{pair_beside}
use Rattle.move_energy.proofs.Weighed.{surplus_counted, surplus_uncounted, surplus_passed}
use Rattle.strip_nets.proofs.Borders.{regular_beside}
use Rattle.strip_nets.proofs.rows.counted_saving.Goals as goal

pub returns-then-not-counts-clause-value : goal.returns-then-not-counts-clause-value
returns-then-not-counts-clause-value g c = λ m move read. surplus_uncounted _ _ c.if-not-counts.true

pub returns-clause-value : goal.returns-clause-value
returns-clause-value g c = λ m move read.
    let a = c.args in
    let ends = a.material.now.form.ends.now in
    let f = labelling a.material.now.form.at.now in
    let inside : a.site < a.material.now.form.pairs.now.sites = omega (arith, c.requires.site) in
    let pair = pair_beside ends a.site a.place in
    let regular = regular_beside m move f a.material.now.form.pairs.now ends a.site a.place pair c.requires.can.over.by_site inside c.requires.place.0 c.requires.place.1 read.pairs_are refl read.allowed in
    surplus_passed c.saving_by.result c.saving_by.ensures.range
    ∙ surplus_counted m move f pair a.counts _ c.if-not-counts.false regular (c.saving_by.ensures.value m move read)

pub saving_by-requires-clause-place : goal.saving_by-requires-clause-place
saving_by-requires-clause-place g c = record { inside = omega (arith, c.requires.site, c.requires.can.over.sites); from = c.requires.place.0; to = c.requires.place.1 }
