use Rattle.std.proofs.Common.{arith, ◌≤◌, unsigned_abs}
use Rattle.sums.proofs.IntegerSumLemmas.{abs-add}
use Rattle.compile_cut.specs.Weights.{weights_value, arcs_value}
use Rattle.compile_cut.proofs.PartLemmas.{constant_is, passed_is}
use Rattle.compile_cut.proofs.WeightLemmas.{both_below, pair_more}
use Rattle.compile_cut.proofs.quadratic.Quadratic.add_pair.Goals as goal

pub returns-clause-bounded : goal.returns-clause-bounded
returns-clause-bounded c k b =
    let part = c.split_pair-part in
    let constant : unsigned_abs c.args.self.now.constant ≤ 1000000000000000000 = omega (arith, c.requires.bounded.constant) in
    let small : unsigned_abs part.result.constant ≤ 1000000000000000000 = omega (arith, part.ensures.small_constant) in
    let first = rw (passed_is part.result.first (omega (arith, part.ensures.small_first))) at c.add_weight.ensures.size in
    let second = rw (passed_is part.result.second (omega (arith, part.ensures.small_second))) at c.add_weight-2.ensures.size in
    record {
      constant = rw (constant_is c.args.self.now.constant part.result.constant constant small)
          (omega (arith, abs-add c.args.self.now.constant part.result.constant, b.constant, part.ensures.small_constant));
      size = omega (arith, b.size, first, second, c.in_ok-add_arc.ensures.size, part.ensures.small_first, part.ensures.small_second, part.ensures.small_arc);
      arcs = rw (c.add_weight-2.ensures.len, c.add_weight.ensures.len) (c.in_ok-add_arc.ensures.nodes _ (both_below _ c.args.first c.args.second c.requires.first c.requires.second) b.arcs);
      above = c.in_ok-add_arc.ensures.above b.above;
    }

pub returns-clause-value : goal.returns-clause-value
returns-clause-value c x =
    let part = c.split_pair-part in
    let constant : unsigned_abs c.args.self.now.constant ≤ 1000000000000000000 = omega (arith, c.requires.bounded.constant) in
    let small : unsigned_abs part.result.constant ≤ 1000000000000000000 = omega (arith, part.ensures.small_constant) in
    let first = rw (passed_is part.result.first (omega (arith, part.ensures.small_first))) at (c.add_weight.ensures.value x) in
    let second = rw (passed_is part.result.second (omega (arith, part.ensures.small_second))) at (c.add_weight-2.ensures.value x) in
    rw (constant_is c.args.self.now.constant part.result.constant constant small)
    (pair_more c.args.self.now.constant part.result.constant part.result.first part.result.second
    (weights_value c.args.self.now.weights.items x) (weights_value c.add_weight.new.weights.items x) (weights_value c.add_weight-2.new.weights.items x)
    part.result.arc (arcs_value c.args.self.now.arcs.items x) (arcs_value c.add_arc.new.arcs.items x)
    c.args.table.now (x c.args.first) (x c.args.second) first second (c.in_ok-add_arc.ensures.value x)
    part.ensures.constant part.ensures.first part.ensures.second part.ensures.arc)
