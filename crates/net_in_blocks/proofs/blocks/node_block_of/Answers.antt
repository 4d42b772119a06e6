use Rattle.std.proofs.Common.{◌*◌, arith}
use Rattle.std.proofs.lemmas.Nat.{div_below}
use Rattle.net_in_blocks.proofs.blocks.node_block_of.Goals as goal

pub returns-then-blocks-eq1 : goal.returns-then-blocks-eq1
returns-then-blocks-eq1 c =
    rw c.if-blocks-eq1.true
    (omega (arith, div_below (c.args.v * 1) c.args.nodes 1 (omega (arith, c.requires.node)) (omega (arith, c.requires.node))))
