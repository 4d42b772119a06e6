use Rattle.std.proofs.Common.{◌≡◌, ◌∙◌, length, get_or, ap, refl, arith}
use Rattle.std.specs.Prelude.{slice_index}
use Rattle.label_field.specs.LabelFields.{LabelField}
use Rattle.label_energies.specs.Moves.{label_after}
use Rattle.one_move.proofs.Changes.{label_at, site_has, sites_apart, written_at_more, written_at_each, written_at_changed}
use Rattle.one_move.proofs.Relabelled.{unchanged_at}
use Rattle.one_move.proofs.taking.relabel_listed.Goals as goal
use Rattle.one_move.proofs.taking.relabel_listed.Goals.{then-relabel_site, else-relabel_site}

pub value_of-value-requires : goal.value_of-value-requires
value_of-value-requires c =
    let changes = c.requires.changes in
    let has = site_has changes.chosen (length c.args.labelling.now.at) c.args.sites.now c.loop-index.index changes.listed c.loop-index-test.true in
    record { choices = omega (arith, has.0, c.requires.choices) }

pub relabel_site-requires-clause-site : goal.relabel_site-requires-clause-site
relabel_site-requires-clause-site c =
    let changes = c.requires.changes in
    let has = site_has changes.chosen (length c.args.labelling.now.at) c.args.sites.now c.loop-index.index changes.listed c.loop-index-test.true in
    omega (arith, has.0, c.loop-index.invariant.written.len)

pub loop-index-preserved : goal.loop-index-preserved
loop-index-preserved c =
    let old = c.args.labelling.now.at in
    let now = c.loop-index.labelling.at in
    let sites = c.args.sites.now in
    let i = c.loop-index.index in
    let n = get_or sites i 0 in
    let move = c.args.change in
    let bit = c.value_of-value.result in
    let changes = c.requires.changes in
    let has = site_has changes.chosen (length old) sites i changes.listed c.loop-index-test.true in
    let label = label_at move old c.args.choices.now in
    let own : slice_index now n ≡ slice_index old n → label_after move (slice_index now n) bit ≡ label n =
    λ fresh. ap (λ l. label_after move l bit) fresh ∙ ap (label_after move (slice_index old n)) c.value_of-value.ensures in
    let written = ap (λ (f : LabelField). f.at) c.relabel_site.ensures.written in
    let labels = ap (λ (f : LabelField). f.labels) c.relabel_site.ensures.written ∙ c.loop-index.invariant.labels in
    let told = c.relabel_site.ensures.changed in
    elim c.if-relabel_site.branch [
      | then-relabel_site w ↦ record {
        labels = labels;
        written = written_at_more old now c.relabel_site.new.labelling.at label sites i n (label_after move (slice_index now n) bit) c.loop-index.changed
            c.if-relabel_site.changed c.relabel_site.result c.loop-index.invariant.written refl has.0
            (λ k l. sites_apart changes.chosen (length old) sites i k changes.listed c.loop-index-test.true l) own written told.0
            (λ untold. unchanged_at (label_after move (slice_index now n) bit) (slice_index now n) c.relabel_site.result untold told.1)
            (λ so. w.changed-is) (λ untold. absurd (cc (untold, w.if-relabel_site.true)));
      }
      | else-relabel_site w ↦ record {
        labels = labels;
        written = written_at_more old now c.relabel_site.new.labelling.at label sites i n (label_after move (slice_index now n) bit) c.loop-index.changed
            c.if-relabel_site.changed c.relabel_site.result c.loop-index.invariant.written refl has.0
            (λ k l. sites_apart changes.chosen (length old) sites i k changes.listed c.loop-index-test.true l) own written told.0
            (λ untold. unchanged_at (label_after move (slice_index now n) bit) (slice_index now n) c.relabel_site.result untold told.1)
            (λ so. absurd (cc (so, w.if-relabel_site.false))) (λ untold. w.changed-is);
      }
    ]

pub returns-clause-each : goal.returns-clause-each
returns-clause-each c =
    let end : c.loop-index.index ≡ length c.args.sites.now = omega (arith, c.loop-index-test.false, c.loop-index.auto.index-end) in
    written_at_each c.args.change c.args.labelling.now.at c.loop-index.labelling.at c.args.choices.now c.args.sites.now c.loop-index.index c.loop-index.changed
    c.requires.changes end c.loop-index.invariant.written

pub returns-clause-changed : goal.returns-clause-changed
returns-clause-changed c =
    let end : c.loop-index.index ≡ length c.args.sites.now = omega (arith, c.loop-index-test.false, c.loop-index.auto.index-end) in
    written_at_changed c.args.change c.args.labelling.now.at c.loop-index.labelling.at c.args.choices.now c.args.sites.now c.loop-index.index c.loop-index.changed
    c.requires.changes end c.loop-index.invariant.written
