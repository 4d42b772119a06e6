use Rattle.std.proofs.Common.{◌≡◌, [], length, replicate, ap, ◌∙◌, arith}
use Rattle.std.proofs.lemmas.Grind.{common_steps}
use Rattle.block_rings.proofs.Joining.{begun_none}
use Rattle.block_rings.proofs.join.join_rows.Goals as goal

pub loop-c-init : goal.loop-c-init
loop-c-init c =
    let long : c.len.result ≡ length c.args.rows.now.items = grind (arith, common_steps) in
    begun_none c.args.ring (length c.args.rows.now.items) _ _ (c.in_ok-lists.ensures ∙ ap (λ n. replicate n []) long)
