use Rattle.std.proofs.Common.{◌<◌, not, ◌&&◌, get_or, length, arith}
use Rattle.std.proofs.lemmas.List.Elements.{All-head, All-tail}
use Rattle.std.proofs.lemmas.List.Sums.{sum_by_more}
use Rattle.sums.specs.Sums.{count_if}
use Rattle.compile_cut.proofs.WeightLemmas.{both_below}
use Rattle.compile_cut.proofs.tied.add_arcs_to.Goals as goal

pub loop-index-preserved : goal.loop-index-preserved
loop-index-preserved c =
    let nodes = c.args.nodes.now in
    let i = c.loop-index.index in
    let inside : i < length nodes = omega arith in
    record {
      value = λ x. omega (arith, c.in_ok-add_arc.ensures.value x, c.loop-index.invariant.value x, sum_by_more (λ node. count_if (x c.args.to && not (x node)) c.args.capacity) nodes i 0 inside);
      size = omega (arith, c.in_ok-add_arc.ensures.size, c.loop-index.invariant.size);
      nodes = λ n below all.
          let own = All-head (λ end. end < n) _ nodes below in
          let node = get_or nodes i 0 in
          let here : node < n = All-tail (λ end. end < n) _ nodes below i 0 inside in
          c.in_ok-add_arc.ensures.nodes n (both_below n node c.args.to here own) (c.loop-index.invariant.nodes n below all);
      above = λ all. c.in_ok-add_arc.ensures.above (c.loop-index.invariant.above all);
    }
