use Rattle.block_split.specs.Split.{whole_of}
use Rattle.rounds.proofs.Borders.{small_blocks}
use Rattle.rounds.proofs.Rounded.{fits, laid_after, held_after, round_after, few_after}
use Rattle.rounds.proofs.round.round_of.Goals as goal

pub run_blocks-requires-clause-small : goal.run_blocks-requires-clause-small
run_blocks-requires-clause-small g c κs within = small_blocks (whole_of c.args.pieces.net c.args.pieces.parts) c.requires.laid

pub drain-pairs-requires-clause-room : goal.drain-pairs-requires-clause-room
drain-pairs-requires-clause-room g c =
    let p = c.args.pieces in
    let r = c.requires in
    let came = c.in_ok-came.came in
    fits c.args.options.now.turns (whole_of p.net p.parts) p.got p.ways.messages p.ways.rooms came.blocks.items came.rings r.laid r.held r.quiet c.in_ok-came.ensures.run

pub put_together-requires-clause-laid : goal.put_together-requires-clause-laid
put_together-requires-clause-laid g c =
    let p = c.args.pieces in
    let r = c.requires in
    let came = c.in_ok-came.came in
    laid_after c.args.options.now.turns (whole_of p.net p.parts) p.got p.ways.messages p.ways.rooms came.blocks.items came.rings r.laid r.held r.quiet c.in_ok-came.ensures.run
    c.drain-pairs.new.ways.messages c.drain-pairs.ensures.left

pub put_together-requires-clause-held : goal.put_together-requires-clause-held
put_together-requires-clause-held g c =
    let p = c.args.pieces in
    let r = c.requires in
    let came = c.in_ok-came.came in
    held_after c.args.options.now.turns (whole_of p.net p.parts) p.got p.ways.messages p.ways.rooms came.blocks.items came.rings r.laid r.held r.quiet c.in_ok-came.ensures.run
    c.drain-pairs.new.ways.messages c.drain-pairs.new.ways.rooms c.drain-pairs.ensures.left c.drain-pairs.ensures.rooms

pub returns-clause-round : goal.returns-clause-round
returns-clause-round g c =
    let p = c.args.pieces in
    let r = c.requires in
    let came = c.in_ok-came.came in
    round_after c.args.options.now.turns (whole_of p.net p.parts) p.got p.ways.messages p.ways.rooms came.blocks.items came.rings r.laid r.held r.quiet c.in_ok-came.ensures.run
    c.drain-pairs.new.ways.messages c.put_together.result c.drain-pairs.ensures.left c.put_together.ensures

pub returns-clause-left : goal.returns-clause-left
returns-clause-left g c =
    let p = c.args.pieces in
    let r = c.requires in
    let came = c.in_ok-came.came in
    few_after c.args.options.now.turns (whole_of p.net p.parts) p.got p.ways.messages p.ways.rooms came.blocks.items came.rings r.laid r.held r.quiet c.in_ok-came.ensures.run
    c.args.options.now.ring c.drain-pairs.new.ways.messages c.put_together.result c.drain-pairs.ensures.left c.put_together.ensures c.in_ok-came.ensures.room c.drain-pairs.ensures.few
