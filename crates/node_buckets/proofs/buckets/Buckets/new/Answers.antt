use Rattle.std.proofs.Common.{arith}
use Rattle.std.proofs.lemmas.Grind.{common_steps}
use Rattle.node_buckets.proofs.Moving.{fresh_rows}
use Rattle.node_buckets.proofs.buckets.Buckets.new.Goals as goal

pub invariant_of-result : goal.invariant_of-result
invariant_of-result c =
    fresh_rows c.args.buckets c.args.nodes _ _ _ (grind (arith, common_steps)) c.requires.some (omega (arith, c.requires.small)) (c.in_ok-alone.ensures.size) (c.in_ok-alone-2.ensures.size) c.in_ok-alone.ensures.alone c.in_ok-alone-2.ensures.alone
