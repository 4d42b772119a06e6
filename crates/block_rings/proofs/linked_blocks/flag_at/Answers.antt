use Rattle.std.proofs.Common.{◌≡◌, Bool, length, sym, ◌∙◌, ap, arith, Vec, Global}
use Rattle.std.proofs.lemmas.Grind.{common_steps}
use Rattle.block_rings.proofs.Joining.{row_at}
use Rattle.block_rings.proofs.linked_blocks.flag_at.Goals as goal

pub index-requires-2 : goal.index-requires-2
index-requires-2 c =
    let row = c.index.result.now in
    let rows = c.args.rows.now.items in
    let long : length row.items ≡ length rows =
    sym (ap length (row_at (λ (r : Vec Bool Global). r.items) rows c.args.b row c.requires.first c.index.ensures)) ∙ c.requires.square.each c.args.b c.requires.first in
    let low = c.requires.second in
    grind (arith, common_steps)
