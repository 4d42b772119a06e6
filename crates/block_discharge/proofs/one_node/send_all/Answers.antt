use Rattle.std.proofs.Common.{◌≡◌, ℕ, inl, inr, sym, ◌∙◌, subst, arith}
use Rattle.std.proofs.lemmas.Bool.{cases_lt}
use Rattle.block_net.specs.Views.{CellsView}
use Rattle.block_discharge.specs.Steps.{IsSure, Send}
use Rattle.block_discharge.proofs.Runs.{does_more}
use Rattle.block_discharge.proofs.one_node.send_all.Goals as goal

pub borders-preserved : goal.borders-preserved
borders-preserved g c =
    let old = c.args.cells.now.block in
    let inv = c.borders.invariant in
    let told = c.try_send-count.ensures in
    let was = g.W.Ways.seen c.args.ways.now in
    let seen = g.W.Ways.seen c.borders.ways in
    record {
      identity = told.identity ∙ inv.identity;
      few = omega arith;
      does = does_more old c.borders.cells.block c.try_send-count.new.cells.block was seen (g.W.Ways.seen c.try_send-count.new.ways) c.borders.count c.try_send-count.result inv.does told.does;
      same = λ none. told.still (omega arith) ∙ inv.same (omega arith);
      idle = λ none i low high. elim (cases_lt i c.borders.j) [
        | inl before ↦ inv.idle (omega arith) i low before
        | inr last ↦
            let zero' : c.borders.count ≡ 0 = omega arith in
            let still = inv.does.still zero' in
            let here : i ≡ c.borders.j = omega arith in
            let off = told.idle (omega arith) in
            λ on.
            let on' : IsSure old was (Send c.args.v c.borders.j) = subst (λ (k : ℕ). IsSure old was (Send c.args.v k)) here on in
            let seen' : IsSure old seen (Send c.args.v c.borders.j) = (on'.0, still.1.room _ on'.1) in
            off (subst (λ (b : CellsView). IsSure b seen (Send c.args.v c.borders.j)) (sym still.0) seen')
      ];
    }
