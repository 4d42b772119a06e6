use Rattle.std.proofs.Common.{◌≡◌, ℤ, List, All, subst, sym, rules}
use Rattle.run_options.specs.Limits.{IsSmoothCost}
use Rattle.run_options.specs.Shapes.{shape_row, shape_table}
use Rattle.run_options.proofs.Tables.{front_more, rows_kept}
use Rattle.run_options.proofs.table.smooth_table.Goals as goal

pub loop-first-preserved : goal.loop-first-preserved
loop-first-preserved c =
    let one = front_more (shape_row c.args.shape c.args.labels c.args.most) c.loop-first.first in
    let pushed = c.in_ok-row_into.ensures in
    cc (one, pushed)

pub returns-clause-limits : goal.returns-clause-limits
returns-clause-limits c =
    λ few.
    let is : c.loop-first.table.items ≡ shape_table c.args.shape c.args.labels c.args.most = search rules in
    subst (λ (costs : List ℤ). All IsSmoothCost costs) (sym is) (rows_kept c.args.shape c.args.labels c.args.most few)
