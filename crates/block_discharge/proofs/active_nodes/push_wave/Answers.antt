use Rattle.std.proofs.Common.{◌∙◌, arith}
use Rattle.block_discharge.proofs.Runs.{does_more}
use Rattle.block_discharge.proofs.active_nodes.push_wave.Goals as goal

pub wave-preserved : goal.wave-preserved
wave-preserved g c =
    let inv = c.wave.invariant in
    let told = c.push_if_active-count.ensures in
    record {
      identity = told.identity ∙ inv.identity;
      few = omega arith;
      same = λ none. told.still (omega arith) ∙ inv.same (omega arith);
      does = does_more c.args.cells.now.block c.wave.cells.block c.push_if_active-count.new.cells.block (g.W.Ways.seen c.args.ways.now) (g.W.Ways.seen c.wave.ways) (g.W.Ways.seen c.push_if_active-count.new.ways)
          c.wave.count c.push_if_active-count.result inv.does told.does;
    }
