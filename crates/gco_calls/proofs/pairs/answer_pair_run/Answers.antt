use Rattle.std.proofs.Common.{◌∙◌}
use Rattle.gco_calls.proofs.PairTold.{pair_run_is_told}
use Rattle.gco_calls.proofs.pairs.answer_pair_run.Goals as goal

pub returns-in-Ok-clause-ran : goal.returns-in-Ok-clause-ran
returns-in-Ok-clause-ran g c =
    λ ok. pair_run_is_told _ _ c.args.cycles _ _ c.in-Some.kind c.in-Ok.made c.in-Ok.ensures.given c.in-Some.ensures.some c.in-Ok.ensures.made
    (c.copy_labels.ensures ∙ c.as_slice.ensures.value) c.tell_made.ensures
