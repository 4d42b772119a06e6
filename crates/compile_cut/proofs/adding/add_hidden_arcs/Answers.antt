use Rattle.std.proofs.lemmas.Grind.{common_steps}
use Rattle.std.proofs.Common.{arith, ◌<◌}
use Rattle.compile_cut.proofs.WeightLemmas.{both_below}
use Rattle.compile_cut.proofs.adding.add_hidden_arcs.Goals as goal

pub returns-then-weight-gt0 : goal.returns-then-weight-gt0
returns-then-weight-gt0 c =
    let nodes = c.args.nodes in
    let hidden = c.args.hidden in
    record {
      value = λ x. grind (arith, common_steps, c.in_ok-add_arc.ensures.value x, c.in_ok-add_arc-2.ensures.value x, c.in_ok-add_arc-3.ensures.value x);
      size = grind (arith, common_steps, c.in_ok-add_arc.ensures.size, c.in_ok-add_arc-2.ensures.size, c.in_ok-add_arc-3.ensures.size);
      nodes = λ n below all.
          let own : hidden < n = below 0 0 (omega arith) in
          let one = c.in_ok-add_arc.ensures.nodes n (both_below n hidden nodes.first own (below 1 0 (omega arith))) all in
          let two = c.in_ok-add_arc-2.ensures.nodes n (both_below n hidden nodes.second own (below 2 0 (omega arith))) one in
          c.in_ok-add_arc-3.ensures.nodes n (both_below n hidden nodes.third own (below 3 0 (omega arith))) two;
      above = λ all. c.in_ok-add_arc-3.ensures.above (c.in_ok-add_arc-2.ensures.above (c.in_ok-add_arc.ensures.above all));
    }

pub returns : goal.returns
returns c =
    let nodes = c.args.nodes in
    let hidden = c.args.hidden in
    record {
      value = λ x. grind (arith, common_steps, c.in_ok-add_arc-4.ensures.value x, c.in_ok-add_arc-5.ensures.value x, c.in_ok-add_arc-6.ensures.value x);
      size = grind (arith, common_steps, c.in_ok-add_arc-4.ensures.size, c.in_ok-add_arc-5.ensures.size, c.in_ok-add_arc-6.ensures.size);
      nodes = λ n below all.
          let own : hidden < n = below 0 0 (omega arith) in
          let one = c.in_ok-add_arc-4.ensures.nodes n (both_below n nodes.first hidden (below 1 0 (omega arith)) own) all in
          let two = c.in_ok-add_arc-5.ensures.nodes n (both_below n nodes.second hidden (below 2 0 (omega arith)) own) one in
          c.in_ok-add_arc-6.ensures.nodes n (both_below n nodes.third hidden (below 3 0 (omega arith)) own) two;
      above = λ all. c.in_ok-add_arc-6.ensures.above (c.in_ok-add_arc-5.ensures.above (c.in_ok-add_arc-4.ensures.above all));
    }
