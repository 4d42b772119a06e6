use Rattle.std.proofs.Common.{◌≡◌, ℕ, ◌+◌, ◌<◌, inl, inr, refl, sym, ◌∙◌, ap, subst, arith}
use Rattle.block_net.specs.Views.{CellsView, count}
use Rattle.block_discharge.specs.Active.{IsActiveInBlock}
use Rattle.block_discharge.specs.Standing.{BucketedView, IsAside, waiting_count}
use Rattle.block_discharge.specs.Works.{DoesEvents, IsIdle}
use Rattle.block_discharge.proofs.Runs.{does_look, does_more, does_as, look_more, idle_look}
use Rattle.block_discharge.proofs.Passing.{active_idle}
use Rattle.block_discharge.proofs.active_nodes.pass.Goals as goal

pub nodes-preserved : goal.nodes-preserved
nodes-preserved g c =
    let old = c.args.cells.now.block in
    let inv = c.nodes.invariant in
    let told = c.visit-did.ensures in
    let was = g.W.Ways.seen c.args.ways.now in
    let seen = g.W.Ways.seen c.nodes.ways in
    let now = g.W.Ways.seen c.visit-did.new.ways in
    let v = c.in-Some.v in
    let none : c.visit-did.result.0 ≡ 0 = omega arith in
    let first = inv.does.still refl in
    let second = told.does.still none in
    let high : c.highest.new.self.block ≡ old = ap (λ (x : BucketedView). x.block) c.in-Some.ensures.same ∙ first.0 in
    let same : c.visit-did.new.cells ≡ c.nodes.cells = told.still none ∙ c.in-Some.ensures.same in
    let last : c.set_aside.new.self.block ≡ old = c.set_aside.ensures.block ∙ (second.0 ∙ high) in
    record {
      identity = told.identity ∙ inv.identity;
      does = subst (λ (b : CellsView). DoesEvents old was 0 b now) (sym last) (does_look old was now (look_more was seen now first.1 second.1));
      idle = λ some u out. elim (c.set_aside.ensures.aside u out) [
        | inl e ↦
            let idle : IsIdle c.highest.new.self.block was v = idle_look c.highest.new.self.block was seen v first.1 (told.idle none some) in
            inr (subst (λ (k : ℕ). IsIdle old was k) (sym e) (subst (λ (b : CellsView). IsIdle b was v) high idle))
        | inr before ↦ inv.idle some u (subst (λ (x : BucketedView). IsAside x u) same before)
      ];
    }

pub rest-requires : goal.rest-requires
rest-requires g c = omega (arith, c.in-Some.ensures.node.0.node, ap (λ (x : BucketedView). count x.block) c.in-Some.ensures.same, c.visit-did.ensures.does.alike.count)

pub returns-then-rises-gt0-clause-does : goal.returns-then-rises-gt0-clause-does
returns-then-rises-gt0-clause-does g c =
    let old = c.args.cells.now.block in
    let was = g.W.Ways.seen c.args.ways.now in
    let seen = g.W.Ways.seen c.nodes.ways in
    let now = g.W.Ways.seen c.visit-did.new.ways in
    let told = subst (λ (b : CellsView). DoesEvents b seen c.visit-did.result.0 c.visit-did.new.cells.block now) (ap (λ (x : BucketedView). x.block) c.in-Some.ensures.same) c.visit-did.ensures.does in
    let all = does_more old c.nodes.cells.block c.visit-did.new.cells.block was seen now 0 c.visit-did.result.0 c.nodes.invariant.does told in
    let all' : DoesEvents old was c.visit-did.result.0 c.visit-did.new.cells.block now = does_as old _ was now (0 + c.visit-did.result.0) c.visit-did.result.0 (omega arith) all in
    subst (λ (b : CellsView). DoesEvents old was c.visit-did.result.0 b now) (sym c.rest.ensures) all'

pub nodes-smaller : goal.nodes-smaller
nodes-smaller g c =
    let none : c.visit-did.result.0 ≡ 0 = omega arith in
    let same : c.visit-did.new.cells ≡ c.nodes.cells = c.visit-did.ensures.still none ∙ c.in-Some.ensures.same in
    subst (λ (x : BucketedView). waiting_count c.set_aside.new.self < waiting_count x) same c.set_aside.ensures.fewer

pub returns-clause-idle : goal.returns-clause-idle
returns-clause-idle g c = λ none some fresh.
    let old = c.args.cells.now.block in
    let was = g.W.Ways.seen c.args.ways.now in
    let first = c.nodes.invariant.does.still refl in
    active_idle old was (λ v on.
    let on' : IsActiveInBlock c.nodes.cells.block v = subst (λ (b : CellsView). IsActiveInBlock b v) (sym first.0) on in
    elim (c.nodes.invariant.idle some v (c.in_default.ensures.node v on')) [
      | inl out ↦ absurd (fresh v on.node out)
      | inr idle ↦ idle
    ])
