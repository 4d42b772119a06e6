use Rattle.std.proofs.Common.{◌∙◌, ◌<◌, length, get_or, slice_index, refl, ap, arith}
use Rattle.label_field.specs.LabelFields.{LabelField}
use Rattle.one_move.proofs.Relabelled.{unchanged_at}
use Rattle.later_expansions.proofs.Stages.{given_more, given_all}
use Rattle.later_expansions.proofs.later_expansion.take.Goals.{then-relabel_site, else-relabel_site}
use Rattle.later_expansions.proofs.later_expansion.take.Goals as goal

pub loop-index-preserved : goal.loop-index-preserved
loop-index-preserved c =
    let old = c.args.labelling.now.at in
    let now = c.loop-index.labelling.at in
    let new = c.relabel_site.new.labelling.at in
    let sites = c.args.sites.now in
    let i = c.loop-index.index in
    let n = get_or sites i 0 in
    let a = c.args.alpha in
    let within : n < length old = c.requires.inside i 0 c.loop-index-test.true in
    let written = ap (λ (f : LabelField). f.at) c.relabel_site.ensures.written in
    let labels = ap (λ (f : LabelField). f.labels) c.relabel_site.ensures.written ∙ c.loop-index.invariant.labels in
    let told = c.relabel_site.ensures.changed in
    elim c.if-relabel_site.branch [
      | then-relabel_site w ↦ record {
        labels = labels;
        given = given_more a old now new sites i n c.loop-index.changed c.if-relabel_site.changed c.relabel_site.result c.loop-index.invariant.given refl within written
            told.0 (λ untold. unchanged_at a (slice_index now n) c.relabel_site.result untold told.1) (λ so. w.changed-is)
            (λ untold. absurd (cc (untold, w.if-relabel_site.true)));
      }
      | else-relabel_site w ↦ record {
        labels = labels;
        given = given_more a old now new sites i n c.loop-index.changed c.if-relabel_site.changed c.relabel_site.result c.loop-index.invariant.given refl within written
            told.0 (λ untold. unchanged_at a (slice_index now n) c.relabel_site.result untold told.1)
            (λ so. absurd (cc (so, w.if-relabel_site.false))) (λ untold. w.changed-is);
      }
    ]

pub returns-clause-each : goal.returns-clause-each
returns-clause-each c = λ took listed.
    given_all c.args.alpha c.args.labelling.now.at c.loop-index.labelling.at c.args.sites.now c.loop-index.index c.loop-index.changed took c.loop-index.invariant.given
    (omega (arith, c.loop-index-test.false, c.loop-index.auto.index-end)) listed
