use Rattle.std.proofs.Common.{rules, ◌∙◌}
use Rattle.gco_calls.proofs.Told.{run_is_told}
use Rattle.gco_calls.proofs.label.answer_run.Goals as goal

pub returns-in-Ok-clause-ran : goal.returns-in-Ok-clause-ran
returns-in-Ok-clause-ran g c =
    λ ok. run_is_told _ _ c.args.cycles _ _ c.in-Some.kind c.in-Ok.run' c.in-Ok.ensures.given c.in-Some.ensures.some c.in-Ok.ensures.run
    (c.copy_labels.ensures ∙ c.as_slice.ensures.value) c.tell_run.ensures

pub returns-in-Err-clause-unchanged : goal.returns-in-Err-clause-unchanged
returns-in-Err-clause-unchanged c = search rules
