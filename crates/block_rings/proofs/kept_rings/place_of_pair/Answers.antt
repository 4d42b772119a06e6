use Rattle.std.proofs.Common.{arith}
use Rattle.block_workers.proofs.Places.{at_place}
use Rattle.block_rings.proofs.kept_rings.place_of_pair.Goals as goal

pub returns-clause-none : goal.returns-clause-none
returns-clause-none c = λ has.
    let done = c.loop-k-test.false in
    let some = at_place c.args.pairs.now.items has.place has.below in
    c.loop-k.invariant has.place some (omega (arith, done)) has.below (has.is some)
