use Rattle.std.proofs.Common.{◌≡◌, ◌++◌, ◌∷◌, [], arith}
use Rattle.std.proofs.lemmas.Grind.{common_steps}
use Rattle.pgm_image.specs.declared.plain.Fault.TheVariants.{Ended, Bad}
use Rattle.pgm_image.proofs.PlainSteps.{goes_on, above, faulty, is_done}
use Rattle.pgm_image.proofs.plain.plain_samples.Goals as goal

pub returns-in-Err-Ended-clause-value : goal.returns-in-Err-Ended-clause-value
returns-in-Err-Ended-clause-value c = faulty c.loop-index.samples.items c.args.count c.args.maxval c.args.end c.loop-index.index c.loop-index.rest.now Ended _ c.loop-index-test.true (rw c.in-Err-Ended.field-0-is at c.in-Err-Ended.ensures.value) c.loop-index.invariant.1

pub returns-in-Err-Bad-clause-value : goal.returns-in-Err-Bad-clause-value
returns-in-Err-Bad-clause-value c = faulty c.loop-index.samples.items c.args.count c.args.maxval c.args.end c.loop-index.index c.loop-index.rest.now (Bad c.in-Err-Bad.left) _ c.loop-index-test.true (rw c.in-Err-Bad.field-0-is at c.in-Err-Bad.ensures.value) c.loop-index.invariant.1

pub returns-then-value-maxval-clause-value : goal.returns-then-value-maxval-clause-value
returns-then-value-maxval-clause-value c = above c.loop-index.samples.items c.args.count c.args.maxval c.args.end c.loop-index.index c.loop-index.rest.now c.in-Ok-sample_at.found.0 c.in-Ok-sample_at.found.1.now _ c.loop-index-test.true c.if-value-maxval.true c.in-Ok-sample_at.ensures.value c.loop-index.invariant.1

pub loop-index-preserved : goal.loop-index-preserved
loop-index-preserved c =
    let e : c.push_reserved.new.self.items ≡ c.loop-index.samples.items ++ c.in-Ok-sample_at.found.0 ∷ [] = grind (arith, common_steps) in
    (omega (arith, c.in-Ok-sample_at.ensures.shorter, c.loop-index.invariant.0), rw e (goes_on c.loop-index.samples.items c.args.count c.args.maxval c.args.end c.loop-index.index c.loop-index.rest.now c.in-Ok-sample_at.found.0 c.in-Ok-sample_at.found.1.now _ c.loop-index-test.true (omega arith) c.in-Ok-sample_at.ensures.value c.loop-index.invariant.1), rw e (grind (arith, common_steps)), rw e (grind (arith, common_steps)), omega (arith, c.push_reserved.ensures.capacity, c.loop-index.invariant.4))

pub returns-clause-value : goal.returns-clause-value
returns-clause-value c = is_done c.loop-index.samples.items c.args.count c.args.maxval c.args.end c.loop-index.index c.loop-index.rest.now _ c.loop-index-test.false c.loop-index.invariant.1
