use Rattle.std.proofs.lemmas.Grind.{common_steps}
use Rattle.std.proofs.lemmas.List.Elements.{All-push}
use Rattle.std.proofs.Common.{arith}
use Rattle.flow_network.specs.Cut.{IsArc}
use Rattle.compile_cut.specs.Weights.{IsAbove}
use Rattle.compile_cut.proofs.adding.add_arc.Goals as goal

pub returns-in_ok-push : goal.returns-in_ok-push
returns-in_ok-push c = record {
  value = λ x. grind (arith, common_steps);
  size = grind (arith, common_steps);
  nodes = λ n ends all. rw c.in_ok-push.ensures.items (All-push (IsArc n) c.args.arcs.now.items _ all (record { from = ends 0 0 (omega arith); to = ends 1 0 (omega arith) }));
  above = λ all. rw c.in_ok-push.ensures.items (All-push IsAbove c.args.arcs.now.items _ all (omega (arith, c.if-capacity-gt0.true)));
}
