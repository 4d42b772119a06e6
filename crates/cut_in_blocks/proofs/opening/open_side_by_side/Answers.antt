use Rattle.block_net.specs.Whole.{no_block}
use Rattle.cut_in_blocks.proofs.Opened.{all_opened}
use Rattle.cut_in_blocks.proofs.opening.open_side_by_side.Goals as goal

pub returns-clause-opening : goal.returns-clause-opening
returns-clause-opening g c =
    all_opened c.args.old.now.value c.args.blocks.now c.open_each.new.blocks c.requires.opening c.open_each.auto.blocks (λ b l. c.open_each.ensures.opens b no_block l)
