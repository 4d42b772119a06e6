use Rattle.std.proofs.Common.{◌<◌, ℕ, ◌∙◌, subst, sym, arith}
use Rattle.block_net.specs.Views.{CellsView, count}
use Rattle.block_discharge.specs.Standing.{BucketedView, IsAside}
use Rattle.block_discharge.specs.Works.{IsIdle}
use Rattle.block_discharge.proofs.Runs.{does_more, idle_look}
use Rattle.block_discharge.proofs.active_nodes.sweep.Goals as goal

pub passes-preserved : goal.passes-preserved
passes-preserved g c =
    let inv = c.passes.invariant in
    let told = c.pass-did.ensures in
    record {
      identity = told.identity ∙ inv.identity;
      few = omega arith;
      more = omega arith;
      rises = omega arith;
      same = λ none. absurd (omega arith);
      does = does_more c.args.cells.now.block c.passes.cells.block c.pass-did.new.cells.block (g.W.Ways.seen c.args.ways.now) (g.W.Ways.seen c.passes.ways) (g.W.Ways.seen c.pass-did.new.ways)
          c.passes.count c.pass-did.result.0 inv.does told.does;
    }

pub returns-then-all_rises-most-clause-does : goal.returns-then-all_rises-most-clause-does
returns-then-all_rises-most-clause-does g c =
    does_more c.args.cells.now.block c.passes.cells.block c.pass-did.new.cells.block (g.W.Ways.seen c.args.ways.now) (g.W.Ways.seen c.passes.ways) (g.W.Ways.seen c.pass-did.new.ways)
    c.passes.count c.pass-did.result.0 c.passes.invariant.does c.pass-did.ensures.does

pub returns-then-did-eq0-clause-idle : goal.returns-then-did-eq0-clause-idle
returns-then-did-eq0-clause-idle g c = λ none some fresh v.
    let still = c.passes.invariant.does.still none in
    let same = c.passes.invariant.same none in
    let was = g.W.Ways.seen c.args.ways.now in
    let fresh' = subst (λ (x : BucketedView). (u : ℕ) → u < count x.block → ¬ IsAside x u) (sym same) fresh in
    let idle = idle_look c.passes.cells.block was (g.W.Ways.seen c.passes.ways) v still.1 (c.pass-did.ensures.idle (omega arith) (omega arith) fresh' v) in
    subst (λ (x : CellsView). IsIdle x was v) still.0 idle
