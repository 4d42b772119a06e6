use Rattle.std.proofs.Common.{◌∙◌, ap, arith}
use Rattle.vision.specs.Problems.{edge_weight, with_weight}
use Rattle.vision.proofs.Weights.{weighed_step, weighed_all, listed}
use Rattle.vision.proofs.pairs.weigh.Goals as goal

pub loop-index-preserved : goal.loop-index-preserved
loop-index-preserved c =
    weighed_step (edge_weight c.args.options.now c.args.picture.now) c.args.pairs.now c.loop-index.pairs c.set_weight.new.self
    c.loop-index.index c.get.result c.edge_weight-weight.result c.loop-index.invariant c.get.ensures.value c.set_weight.ensures c.edge_weight-weight.ensures.value

pub returns : goal.returns
returns c =
    c.loop-index.invariant
    ∙ ap (λ xs. listed c.args.pairs.now xs) (weighed_all (with_weight (edge_weight c.args.options.now c.args.picture.now)) c.args.pairs.now.list c.loop-index.index (omega arith))
