use Rattle.std.proofs.Common.{arith}
use Rattle.block_split.proofs.Sorted.{made_less}
use Rattle.block_split.proofs.side_by_side.take_block.Goals as goal

pub returns-in-Some-clause-made : goal.returns-in-Some-clause-made
returns-in-Some-clause-made c =
    made_less c.args.sorted.now.split c.args.made.now c.args.block c.take.new.self (omega (arith, c.requires.block, c.requires.count)) c.take.ensures.after c.requires.made

pub returns-in-None-clause-made : goal.returns-in-None-clause-made
returns-in-None-clause-made c =
    made_less c.args.sorted.now.split c.args.made.now c.args.block c.take.new.self (omega (arith, c.requires.block, c.requires.count)) c.take.ensures.after c.requires.made
