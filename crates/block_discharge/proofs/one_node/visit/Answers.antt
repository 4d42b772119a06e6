use Rattle.std.proofs.Common.{arith}
use Rattle.block_discharge.proofs.Runs.{does_more, visit_idle}
use Rattle.block_discharge.proofs.one_node.visit.Goals as goal

pub relabel_once-rises-requires : goal.relabel_once-rises-requires
relabel_once-rises-requires g c = omega (arith, c.requires, c.push_on-pushes.ensures.does.alike.count)

pub returns-clause-does : goal.returns-clause-does
returns-clause-does g c =
    let now = g.W.Ways.seen c.push_on-pushes.new.ways in
    does_more c.args.cells.now.block c.push_on-pushes.new.cells.block c.relabel_once-rises.new.cells.block (g.W.Ways.seen c.args.ways.now) now now
    c.push_on-pushes.result c.relabel_once-rises.result c.push_on-pushes.ensures.does (c.relabel_once-rises.ensures.does now)

pub returns-clause-idle : goal.returns-clause-idle
returns-clause-idle g c =
    visit_idle c.args.cells.now.block c.push_on-pushes.new.cells.block c.relabel_once-rises.new.cells.block
    (g.W.Ways.seen c.args.ways.now) (g.W.Ways.seen c.push_on-pushes.new.ways) c.push_on-pushes.result c.relabel_once-rises.result
    c.args.v c.args.limit c.push_on-pushes.ensures.does c.push_on-pushes.ensures.stuck c.relabel_once-rises.ensures.idle
