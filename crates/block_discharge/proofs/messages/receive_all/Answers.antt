use Rattle.std.proofs.Common.{◌≡◌, ℕ, inl, inr, slice_index, sym, ◌∙◌, ap, subst, arith}
use Rattle.std.proofs.lemmas.Bool.{cases_lt}
use Rattle.block_net.specs.Views.{CellsView}
use Rattle.block_discharge.specs.Works.{IsIdleFrom}
use Rattle.block_discharge.proofs.Runs.{does_more, idle_from_look}
use Rattle.block_discharge.proofs.messages.receive_all.Goals as goal

pub others-preserved : goal.others-preserved
others-preserved g c =
    let inv = c.others.invariant in
    let told = c.receive_from-count.ensures in
    let was = g.W.Ways.seen c.args.ways.now in
    let seen = g.W.Ways.seen c.others.ways in
    record {
      identity = told.identity ∙ inv.identity;
      few = omega arith;
      does = does_more c.args.cells.now.block c.others.cells.block c.receive_from-count.new.cells.block was seen (g.W.Ways.seen c.receive_from-count.new.ways) c.others.count c.receive_from-count.result inv.does told.does;
      same = λ none. told.still (omega arith) ∙ inv.same (omega arith);
      idle = λ none some k low. elim (cases_lt k c.others.i) [
        | inl before ↦ inv.idle (omega arith) some k before
        | inr last ↦
            let still = inv.does.still (omega arith) in
            let here : k ≡ c.others.i = omega arith in
            let idle' = idle_from_look c.others.cells.block was seen (slice_index c.args.others.now c.others.i) still.1 (told.idle (omega arith) (omega arith)) in
            let node = ap (slice_index c.args.others.now) (sym here) in
            subst (λ (x : CellsView). IsIdleFrom x was (slice_index c.args.others.now k)) still.0 (subst (λ (u : ℕ). IsIdleFrom c.others.cells.block was u) node idle')
      ];
    }
