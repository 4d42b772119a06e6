use Rattle.std.proofs.Common.{arith}
use Rattle.block_split.proofs.Sorted.{slots_none, slots_all}
use Rattle.block_split.proofs.slots.write_slots.Goals as goal

pub loop-index-init : goal.loop-index-init
loop-index-init c = slots_none c.args.split.now.net.now c.args.split.now.blocks c.args.slots.now c.requires.ranks

pub returns : goal.returns
returns c =
    slots_all c.args.split.now.net.now c.args.split.now.blocks c.loop-index.index c.loop-index.slots c.requires.numbers.is_net
    (omega (arith, c.loop-index-test.false, c.loop-index.auto.index-end, c.loop-index.auto.slots, c.loop-index.invariant.len)) c.loop-index.invariant
