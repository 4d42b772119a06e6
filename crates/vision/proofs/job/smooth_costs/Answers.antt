use Rattle.std.proofs.lemmas.Result.{IfOk-weaker}
use Rattle.vision.proofs.Tables.{shape_table_is}
use Rattle.vision.proofs.job.smooth_costs.Goals as goal

pub returns-clause-table : goal.returns-clause-table
returns-clause-table c =
    IfOk-weaker c.smooth_table.result _ _ (λ t is. shape_table_is c.args.shape c.args.labels c.args.trunc t.items is) c.smooth_table.ensures.table
