use Rattle.std.proofs.Common.{◌<◌, ◌+◌, ◌≡◌, ℕ, ◌∙◌, subst, sym, arith}
use Rattle.block_net.specs.Views.{CellsView, count}
use Rattle.block_discharge.specs.Standing.{BucketedView, IsAside}
use Rattle.block_discharge.specs.Works.{DoesEvents, IsIdle}
use Rattle.block_discharge.proofs.Runs.{does_more, idle_look}
use Rattle.block_discharge.proofs.active_nodes.work.Goals as goal

pub sweeps-preserved : goal.sweeps-preserved
sweeps-preserved g c =
    let inv = c.sweeps.invariant in
    let told = c.sweep-did.ensures in
    let now = g.W.Ways.seen c.sweep-did.new.ways in
    let all = does_more c.args.cells.now.block c.sweeps.cells.block c.sweep-did.new.cells.block (g.W.Ways.seen c.args.ways.now) (g.W.Ways.seen c.sweeps.ways) now
    c.sweeps.count c.sweep-did.result.0 inv.does told.does in
    record {
      identity = told.identity ∙ inv.identity;
      few = omega arith;
      more = omega arith;
      rises = omega arith;
      same = λ none. absurd (omega arith);
      does = subst (λ (b : CellsView). DoesEvents c.args.cells.now.block (g.W.Ways.seen c.args.ways.now) (c.sweeps.count + c.sweep-did.result.0) b now) (sym c.restore_aside.ensures.block) all;
    }

pub returns-then-rises-eq0-clause-does : goal.returns-then-rises-eq0-clause-does
returns-then-rises-eq0-clause-does g c =
    does_more c.args.cells.now.block c.sweeps.cells.block c.sweep-did.new.cells.block (g.W.Ways.seen c.args.ways.now) (g.W.Ways.seen c.sweeps.ways) (g.W.Ways.seen c.sweep-did.new.ways)
    c.sweeps.count c.sweep-did.result.0 c.sweeps.invariant.does c.sweep-did.ensures.does

pub returns-then-all_rises-most-clause-does : goal.returns-then-all_rises-most-clause-does
returns-then-all_rises-most-clause-does g c =
    does_more c.args.cells.now.block c.sweeps.cells.block c.sweep-did.new.cells.block (g.W.Ways.seen c.args.ways.now) (g.W.Ways.seen c.sweeps.ways) (g.W.Ways.seen c.sweep-did.new.ways)
    c.sweeps.count c.sweep-did.result.0 c.sweeps.invariant.does c.sweep-did.ensures.does

pub returns-then-not-again-clause-does : goal.returns-then-not-again-clause-does
returns-then-not-again-clause-does g c =
    does_more c.args.cells.now.block c.sweeps.cells.block c.sweep-did.new.cells.block (g.W.Ways.seen c.args.ways.now) (g.W.Ways.seen c.sweeps.ways) (g.W.Ways.seen c.sweep-did.new.ways)
    c.sweeps.count c.sweep-did.result.0 c.sweeps.invariant.does c.sweep-did.ensures.does

pub returns-then-rises-eq0-clause-idle : goal.returns-then-rises-eq0-clause-idle
returns-then-rises-eq0-clause-idle g c = λ none some fresh v.
    let first : c.sweeps.count ≡ 0 = omega arith in
    let still = c.sweeps.invariant.does.still first in
    let same = c.sweeps.invariant.same first in
    let was = g.W.Ways.seen c.args.ways.now in
    let fresh' = subst (λ (x : BucketedView). (u : ℕ) → u < count x.block → ¬ IsAside x u) (sym same) fresh in
    let idle = idle_look c.sweeps.cells.block was (g.W.Ways.seen c.sweeps.ways) v still.1 (c.sweep-did.ensures.idle (omega arith) (omega arith) fresh' v) in
    subst (λ (x : CellsView). IsIdle x was v) still.0 idle
