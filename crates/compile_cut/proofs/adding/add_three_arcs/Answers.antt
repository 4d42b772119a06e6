use Rattle.std.proofs.Common.{arith}
use Rattle.compile_cut.proofs.WeightLemmas.{both_below, adds_among, adds_three}
use Rattle.compile_cut.proofs.adding.add_three_arcs.Goals as goal

pub returns : goal.returns
returns c =
    let nodes = c.args.nodes in
    adds_three _ _ _ _ _ _ _ _ _ _ _
    (adds_among _ _ _ _ _ _ (λ n below. both_below n nodes.first nodes.second (below 0 0 (omega arith)) (below 1 0 (omega arith))) c.in_ok-add_arc.ensures)
    (adds_among _ _ _ _ _ _ (λ n below. both_below n nodes.first nodes.third (below 0 0 (omega arith)) (below 2 0 (omega arith))) c.in_ok-add_arc-2.ensures)
    (adds_among _ _ _ _ _ _ (λ n below. both_below n nodes.second nodes.third (below 1 0 (omega arith)) (below 2 0 (omega arith))) c.in_ok-add_arc-3.ensures)
