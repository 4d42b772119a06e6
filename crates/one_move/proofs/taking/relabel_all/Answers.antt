use Rattle.std.proofs.Common.{◌≡◌, ◌<◌, ◌∙◌, ℕ, length, ap, arith}
use Rattle.std.specs.Prelude.{slice_index}
use Rattle.label_field.specs.LabelFields.{LabelField}
use Rattle.label_energies.specs.Moves.{label_after}
use Rattle.one_move.specs.Building.{site_values}
use Rattle.one_move.proofs.Relabelled.{written_more}
use Rattle.one_move.proofs.taking.relabel_all.Goals as goal
use Rattle.one_move.proofs.taking.relabel_all.Goals.{then-relabel_site, else-relabel_site}

pub loop-site-preserved : goal.loop-site-preserved
loop-site-preserved c =
    let old = c.args.labelling.now.at in
    let now = c.loop-site.labelling.at in
    let n = c.loop-site.site in
    let move = c.args.change in
    let bit = c.value_of-bit.result in
    let so_far = c.loop-site.invariant.written in
    let label : ℕ → ℕ = λ p. label_after move (slice_index old p) (site_values c.args.choices.now p) in
    let within : n < length old = omega (arith, c.loop-site-test.true, c.sites-site-end.ensures.value) in
    let own : label_after move (slice_index now n) bit ≡ label n =
    ap (λ l. label_after move l bit) (so_far.left n (omega arith)) ∙ ap (label_after move (slice_index old n)) c.value_of-bit.ensures in
    let written = ap (λ (f : LabelField). f.at) c.relabel_site.ensures.written in
    let labels = ap (λ (f : LabelField). f.labels) c.relabel_site.ensures.written ∙ c.loop-site.invariant.labels in
    let told = c.relabel_site.ensures.changed in
    elim c.if-relabel_site.branch [
      | then-relabel_site w ↦ record {
        labels = labels;
        written = written_more old now c.relabel_site.new.labelling.at label n (label_after move (slice_index now n) bit) c.loop-site.changed c.if-relabel_site.changed
            c.relabel_site.result so_far within own written told.0 told.1 (λ so. w.changed-is) (λ untold. absurd (cc (untold, w.if-relabel_site.true)));
      }
      | else-relabel_site w ↦ record {
        labels = labels;
        written = written_more old now c.relabel_site.new.labelling.at label n (label_after move (slice_index now n) bit) c.loop-site.changed c.if-relabel_site.changed
            c.relabel_site.result so_far within own written told.0 told.1 (λ so. absurd (cc (so, w.if-relabel_site.false))) (λ untold. w.changed-is);
      }
    ]
