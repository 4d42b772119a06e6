use Rattle.std.proofs.Common.{◌∙◌}
use Rattle.gco_calls.proofs.Told.{move_is_told}
use Rattle.gco_calls.proofs.moving.answer_move.Goals as goal

pub returns-in-Ok-clause-moved : goal.returns-in-Ok-clause-moved
returns-in-Ok-clause-moved g c =
    λ ok. move_is_told _ c.args.change _ _ c.in-Ok.moved c.in-Ok.ensures.given c.in-Ok.ensures.moved
    (c.copy_labels.ensures ∙ c.as_slice.ensures.value) c.tell_move.ensures
