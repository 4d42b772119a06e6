use Rattle.std.proofs.Common.{sym, ◌∙◌}
use Rattle.kept_labels.proofs.Holding.{AreKnown, kept_more, not_kept}
use Rattle.kept_labels.proofs.kept.are_kept.Goals as goal

pub returns-then-not-is_kept : goal.returns-then-not-is_kept
returns-then-not-is_kept c = λ m is are.
    let known : AreKnown c.args.form.now c.mark_used-marks.result c.last_rises-rises.result c.args.costs.now = record {
      few = c.requires.few;
      small = c.requires.costs;
      marked = c.mark_used-marks.ensures;
      risen = c.last_rises-rises.ensures.rises;
    } in
    ((λ yes. absurd (cc (yes))), λ kept. sym (sym (not_kept c.args.form.now c.args.alpha c.loop-label.label c.mark_used-marks.result c.last_rises-rises.result c.args.costs.now c.is_kept.result known c.is_kept.ensures c.loop-label-test.true m is are kept) ∙ c.if-not-is_kept.true))

pub loop-label-preserved : goal.loop-label-preserved
loop-label-preserved c =
    let known : AreKnown c.args.form.now c.mark_used-marks.result c.last_rises-rises.result c.args.costs.now = record {
      few = c.requires.few;
      small = c.requires.costs;
      marked = c.mark_used-marks.ensures;
      risen = c.last_rises-rises.ensures.rises;
    } in
    kept_more c.args.form.now c.args.alpha c.loop-label.label c.mark_used-marks.result c.last_rises-rises.result c.args.costs.now c.is_kept.result known c.is_kept.ensures c.if-not-is_kept.false c.loop-label-test.true c.loop-label.invariant
