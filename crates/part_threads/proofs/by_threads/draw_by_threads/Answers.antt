use Rattle.std.proofs.lemmas.Result.{IfOk-weaker}
use Rattle.part_threads.proofs.by_threads.draw_by_threads.Goals as goal

pub returns : goal.returns
returns g c = IfOk-weaker c.draw_beside.result _ _ (λ hands are k d l. (are k d l).1) c.draw_beside.ensures
