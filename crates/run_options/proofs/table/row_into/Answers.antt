use Rattle.std.proofs.Common.{pos, arith}
use Rattle.std.proofs.lemmas.Grind.{common_steps}
use Rattle.std.proofs.lemmas.List.FromFn.{map-range_with_len_more}
use Rattle.run_options.specs.Shapes.{shape_cost}
use Rattle.run_options.proofs.table.row_into.Goals as goal

pub loop-second-preserved : goal.loop-second-preserved
loop-second-preserved c =
    let more = map-range_with_len_more (λ b. pos (shape_cost c.args.shape c.args.most c.args.first b)) 0 c.loop-second.second c.loop-second.second (omega arith) in
    grind (arith, common_steps, more)
