use Rattle.std.proofs.Common.{◌∙◌}
use Rattle.gco_calls.proofs.PairTold.{pair_move_is_told}
use Rattle.gco_calls.proofs.pairs.answer_pair_move.Goals as goal

pub returns-in-Ok-clause-moved : goal.returns-in-Ok-clause-moved
returns-in-Ok-clause-moved g c =
    λ ok. pair_move_is_told _ c.args.change _ _ c.in-Ok.made c.in-Ok.ensures.given c.in-Ok.ensures.made
    (c.copy_labels.ensures ∙ c.as_slice.ensures.value) c.tell_made.ensures
