use Rattle.std.proofs.Common.{arith}
use Rattle.block_discharge.proofs.Runs.{no_seen, push_does, push_stuck}
use Rattle.block_discharge.proofs.one_node.push_on.Goals as goal

pub push_all-pushes-requires : goal.push_all-pushes-requires
push_all-pushes-requires g c = omega (arith, c.requires, (c.give_once-gifts.ensures.does no_seen).alike.count)

pub send_all-sends-requires : goal.send_all-sends-requires
send_all-sends-requires g c = omega (arith, c.requires, (c.give_once-gifts.ensures.does no_seen).alike.count, (c.push_all-pushes.ensures.does no_seen).alike.count)

pub returns-clause-does : goal.returns-clause-does
returns-clause-does g c =
    push_does c.args.cells.now.block c.give_once-gifts.new.cells.block c.push_all-pushes.new.cells.block c.send_all-sends.new.cells.block
    (g.W.Ways.seen c.args.ways.now) (g.W.Ways.seen c.send_all-sends.new.ways) c.give_once-gifts.result c.push_all-pushes.result c.send_all-sends.result
    c.give_once-gifts.ensures.does c.push_all-pushes.ensures.does c.send_all-sends.ensures.does

pub returns-clause-stuck : goal.returns-clause-stuck
returns-clause-stuck g c =
    push_stuck c.args.cells.now.block c.give_once-gifts.new.cells.block c.push_all-pushes.new.cells.block c.send_all-sends.new.cells.block
    (g.W.Ways.seen c.args.ways.now) (g.W.Ways.seen c.send_all-sends.new.ways) c.give_once-gifts.result c.push_all-pushes.result c.send_all-sends.result
    c.args.v c.args.limit c.give_once-gifts.ensures.does c.push_all-pushes.ensures.does c.send_all-sends.ensures.does
    c.give_once-gifts.ensures.idle c.push_all-pushes.ensures.idle c.send_all-sends.ensures.idle
