use Rattle.std.proofs.Common.{min, refl, arith}
use Rattle.block_net.specs.Views.{excess_in, room_in}
use Rattle.cut_in_blocks.proofs.Opened.{given_opens, given_more}
use Rattle.cut_in_blocks.proofs.opening.give.Goals as goal

pub returns-clause-opens : goal.returns-clause-opens
returns-clause-opens c =
    let B = c.args.cells.now in
    rw (c.give.ensures.given) (given_opens B c.args.v (min (excess_in B c.args.v) (room_in B c.args.v)) c.requires c.give.ensures.place (omega arith) (omega arith))

pub returns-clause-gave : goal.returns-clause-gave
returns-clause-gave c = λ have.
    let B = c.args.cells.now in
    rw (c.give.ensures.given) (given_more B c.args.v (min (excess_in B c.args.v) (room_in B c.args.v)) c.requires c.give.ensures.place refl have)
