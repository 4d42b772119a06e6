use Rattle.std.proofs.Common.{arith, ◌≤◌, unsigned_abs}
use Rattle.sums.proofs.IntegerSumLemmas.{abs-add}
use Rattle.compile_cut.specs.Weights.{weights_value, arcs_value}
use Rattle.compile_cut.proofs.PartLemmas.{constant_is, passed_is}
use Rattle.compile_cut.proofs.WeightLemmas.{one_more}
use Rattle.compile_cut.proofs.quadratic.Quadratic.add_one.Goals as goal

pub returns-clause-bounded : goal.returns-clause-bounded
returns-clause-bounded c k b =
    let part = c.split_one-part in
    let constant : unsigned_abs c.args.self.now.constant ≤ 1000000000000000000 = omega (arith, c.requires.bounded.constant) in
    let small : unsigned_abs part.result.constant ≤ 1000000000000000000 = omega (arith, part.ensures.small_constant) in
    let size = rw (passed_is part.result.weight (omega (arith, part.ensures.small_weight))) at c.add_weight.ensures.size in
    record {
      constant = rw (constant_is c.args.self.now.constant part.result.constant constant small)
          (omega (arith, abs-add c.args.self.now.constant part.result.constant, b.constant, part.ensures.small_constant));
      size = omega (arith, b.size, size, part.ensures.small_weight);
      arcs = rw c.add_weight.ensures.len b.arcs;
      above = b.above;
    }

pub returns-clause-value : goal.returns-clause-value
returns-clause-value c x =
    let part = c.split_one-part in
    let constant : unsigned_abs c.args.self.now.constant ≤ 1000000000000000000 = omega (arith, c.requires.bounded.constant) in
    let small : unsigned_abs part.result.constant ≤ 1000000000000000000 = omega (arith, part.ensures.small_constant) in
    let value = rw (passed_is part.result.weight (omega (arith, part.ensures.small_weight))) at (c.add_weight.ensures.value x) in
    rw (constant_is c.args.self.now.constant part.result.constant constant small)
    (one_more c.args.self.now.constant part.result.constant part.result.weight
    (weights_value c.args.self.now.weights.items x) (weights_value c.add_weight.new.weights.items x) (arcs_value c.args.self.now.arcs.items x)
    c.args.table.now (x c.args.first) value part.ensures.constant part.ensures.weight)
