use Rattle.std.proofs.Common.{◌≡◌, length, arith}
use Rattle.cut_in_blocks.proofs.Opened.{turn_opened}
use Rattle.cut_in_blocks.proofs.opening.open_blocks.Goals as goal

pub each-preserved : goal.each-preserved
each-preserved c =
    let size : c.len-b-end.result ≡ length c.each.blocks.items = omega (arith, c.len-b-end.ensures, c.requires.size, c.each.invariant.size) in
    turn_opened c.args.old.now.value c.each.blocks.items c.len-b-end.result c.each.b c.index_mut.result.now c.open_block.new.cells
    c.each.invariant size c.each-test.true c.index_mut.ensures.value c.open_block.ensures.opens
