use Rattle.cut_in_blocks.proofs.Turned.{turned_over}
use Rattle.cut_in_blocks.proofs.turns.turn_over.Goals as goal

pub returns-clause-run : goal.returns-clause-run
returns-clause-run c =
    turned_over c.args.ends.now c.turn-count.new.ways c.turn-count.result c.args.block.now c.turn-count.new.block c.requires c.turn-count.ensures.identity c.are_ends.ensures c.turn-count.ensures.does
