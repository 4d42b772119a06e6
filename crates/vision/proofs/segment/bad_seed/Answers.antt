use Rattle.std.proofs.Common.{arith}
use Rattle.std.proofs.lemmas.Grind.{common_steps, get_or_default_zero}
use Rattle.vision.proofs.segment.bad_seed.Goals as goal

pub loop-index-preserved : goal.loop-index-preserved
loop-index-preserved c = grind (arith, common_steps)

pub returns : goal.returns
returns c = λ k d inside. omega (arith, get_or_default_zero c.args.seeds.now k d inside, c.loop-index.invariant k (omega (arith, inside)))
