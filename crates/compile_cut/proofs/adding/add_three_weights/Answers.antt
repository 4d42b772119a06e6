use Rattle.std.proofs.Common.{arith, ◌∙◌}
use Rattle.std.proofs.lemmas.Int.{ints}
use Rattle.compile_cut.proofs.PartLemmas.{passed_is}
use Rattle.compile_cut.proofs.adding.add_three_weights.Goals as goal

pub returns : goal.returns
returns c =
    let s = c.requires.small in
    let p = c.args.part.now in
    let first = rw (passed_is p.first (omega (arith, s.first))) at c.add_weight.ensures in
    let second = rw (passed_is p.second (omega (arith, s.second))) at c.add_weight-2.ensures in
    let third = rw (passed_is p.third (omega (arith, s.third))) at c.add_weight-3.ensures in
    record {
      len = third.len ∙ second.len ∙ first.len;
      value = λ x. omega (arith, ints, first.value x, second.value x, third.value x);
      size = omega (arith, first.size, second.size, third.size, s.outer, s.second);
    }
