use Rattle.std.proofs.Common.{◌≡◌, ◌+◌, ◌∙◌, arith}
use Rattle.block_discharge.proofs.Runs.{does_more, does_as}
use Rattle.block_discharge.proofs.messages.receive_from.Goals as goal

pub messages-preserved : goal.messages-preserved
messages-preserved g c =
    let inv = c.messages.invariant in
    let told = c.take_front.ensures in
    let one : c.messages.count + c.take_front.result ≡ c.messages.count + 1 = omega arith in
    record {
      identity = told.identity ∙ inv.identity;
      does = does_as c.args.cells.now.block c.take_front.new.cells.block (g.W.Ways.seen c.args.ways.now) (g.W.Ways.seen c.take_front.new.ways) (c.messages.count + c.take_front.result) (c.messages.count + 1) one
          (does_more c.args.cells.now.block c.messages.cells.block c.take_front.new.cells.block (g.W.Ways.seen c.args.ways.now) (g.W.Ways.seen c.messages.ways) (g.W.Ways.seen c.take_front.new.ways)
          c.messages.count c.take_front.result inv.does told.does);
      same = λ none. absurd (omega arith);
    }
