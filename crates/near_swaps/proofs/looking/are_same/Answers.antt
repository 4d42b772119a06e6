use Rattle.std.proofs.Common.{arith}
use Rattle.near_swaps.proofs.Bounds.{same_all}
use Rattle.near_swaps.proofs.looking.are_same.Goals as goal

pub returns : goal.returns
returns c = λ same p l one.
    same_all c.args.numbers.now c.args.taken.now c.args.bits.now.lower.items c.args.bits.now.upper.items p c.args.opened.now (c.requires.listed p l one)
    (λ k b. c.loop-index.invariant k (omega (arith, b, c.loop-index-test.false))) one
