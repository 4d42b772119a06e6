use Rattle.std.proofs.Common.{◌≡◌, ℕ, ◌+◌, ◌<◌, inl, inr, Contains, sym, ◌∙◌, ap, subst, arith}
use Rattle.std.proofs.lemmas.Bool.{cases_lt}
use Rattle.block_net.specs.Views.{CellsView, count}
use Rattle.block_discharge.specs.Standing.{BucketedView, IsAside}
use Rattle.block_discharge.specs.Steps.{turn_view, DoesMany, IsSure}
use Rattle.block_discharge.specs.Works.{IsIdle}
use Rattle.block_discharge.specs.Turns.{IsKnown}
use Rattle.block_discharge.proofs.Runs.{alike_more, does_more, idle_look}
use Rattle.block_discharge.proofs.Turning.{none_sure}
use Rattle.block_discharge.proofs.block.turn.Goals as goal

pub invariant_of-block : goal.invariant_of-block
invariant_of-block g c =
    let one = c.receive_all-takes.ensures in
    let two = c.push_wave-pushes.ensures in
    let three = c.work-rest.ensures in
    let others = c.block.inside.others.items in
    let known = subst (λ (b : CellsView). IsKnown b others) (sym c.restore_aside.ensures.block) c.block.invariant in
    let alike = alike_more _ _ _ (alike_more _ _ _ one.does.alike two.does.alike) three.does.alike in
    λ j l. subst (λ (u : ℕ). Contains others u) (sym (alike.tos j)) (known j (omega (arith, l, alike.borders)))

pub returns-clause-does : goal.returns-clause-does
returns-clause-does g c =
    let was = g.W.Ways.seen c.args.ways.now in
    let one = g.W.Ways.seen c.receive_all-takes.new.ways in
    let two = g.W.Ways.seen c.push_wave-pushes.new.ways in
    let three = g.W.Ways.seen c.work-rest.new.ways in
    let old = c.restore_aside.new.self.block in
    let both = does_more old c.receive_all-takes.new.cells.block c.push_wave-pushes.new.cells.block was one two c.receive_all-takes.result c.push_wave-pushes.result
    c.receive_all-takes.ensures.does c.push_wave-pushes.ensures.does in
    let all = does_more old c.push_wave-pushes.new.cells.block c.work-rest.new.cells.block was two three (c.receive_all-takes.result + c.push_wave-pushes.result) c.work-rest.result.0 both c.work-rest.ensures.does in
    subst (λ (b : CellsView). DoesMany (turn_view b was) (c.receive_all-takes.result + c.push_wave-pushes.result + c.work-rest.result.0) (turn_view c.work-rest.new.cells.block three))
    (c.restore_aside.ensures.block ∙ c.block.view_is) all.run

pub returns-clause-some : goal.returns-clause-some
returns-clause-some g c = λ some e sure.
    elim (cases_lt 0 (c.receive_all-takes.result + c.push_wave-pushes.result + c.work-rest.result.0)) [
      | inl did ↦ did
      | inr none ↦
          let was = g.W.Ways.seen c.args.ways.now in
          let old = c.restore_aside.new.self.block in
          let others = c.block.inside.others.items in
          let takes : c.receive_all-takes.result ≡ 0 = omega arith in
          let pushes : c.push_wave-pushes.result ≡ 0 = omega arith in
          let rest : c.work-rest.result.0 ≡ 0 = omega arith in
          let both = does_more old c.receive_all-takes.new.cells.block c.push_wave-pushes.new.cells.block was (g.W.Ways.seen c.receive_all-takes.new.ways) (g.W.Ways.seen c.push_wave-pushes.new.ways)
          c.receive_all-takes.result c.push_wave-pushes.result c.receive_all-takes.ensures.does c.push_wave-pushes.ensures.does in
          let still = both.still (omega arith) in
          let same : c.push_wave-pushes.new.cells ≡ c.restore_aside.new.self = c.push_wave-pushes.ensures.still pushes ∙ c.receive_all-takes.ensures.still takes in
          let fresh = subst (λ (x : BucketedView). (v : ℕ) → v < count x.block → ¬ IsAside x v) (sym same) (λ v l. c.restore_aside.ensures.none v (omega (arith, l, ap count c.restore_aside.ensures.block))) in
          let each = rw c.as_slice.ensures.value at (c.receive_all-takes.ensures.idle takes some) in
          let idle : (v : ℕ) → IsIdle old was v = λ v.
          subst (λ (b : CellsView). IsIdle b was v) still.0 (idle_look c.push_wave-pushes.new.cells.block was _ v still.1 (c.work-rest.ensures.idle rest (c.events_left.ensures.some (omega arith)) fresh v)) in
          let known = subst (λ (b : CellsView). IsKnown b others) (sym c.restore_aside.ensures.block) c.block.invariant in
          absurd (none_sure old was others known each idle e (subst (λ (b : CellsView). IsSure b was e) (sym (c.restore_aside.ensures.block ∙ c.block.view_is)) sure))
    ]
