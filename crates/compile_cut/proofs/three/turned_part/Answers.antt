use Rattle.std.proofs.Common.{arith, unsigned_abs, refl, ◌∙◌}
use Rattle.std.proofs.lemmas.Int.{ints}
use Rattle.compile_cut.proofs.PartLemmas.{passed_is, minus_is}
use Rattle.compile_cut.proofs.ThreeLemmas.{below_is, parts_turned}
use Rattle.compile_cut.proofs.three.turned_part.Goals as goal

pub returns-clause-value : goal.returns-clause-value
returns-clause-value c =
    let q = c.args.part.now in
    let small = c.requires.small in
    let old = below_is q.hidden c.requires.sign in
    parts_turned _ q (unsigned_abs q.hidden) (record {
      constant = passed_is c.args.constant (omega (arith, c.requires.range)) ∙ c.requires.constant;
      first = minus_is q.third (omega (arith, small.third));
      second = minus_is q.second (omega (arith, small.second));
      third = minus_is q.first (omega (arith, small.first));
      first_second = refl;
      first_third = refl;
      second_third = refl;
      old_hidden = old;
      new_hidden = minus_is q.hidden (omega (arith, small.hidden)) ∙ omega (arith, ints, old);
    })

pub returns-clause-small : goal.returns-clause-small
returns-clause-small c =
    let q = c.args.part.now in
    let small = c.requires.small in
    rw (
      passed_is c.args.constant (omega (arith, c.requires.range)),
      minus_is q.third (omega (arith, small.third)),
      minus_is q.second (omega (arith, small.second)),
      minus_is q.first (omega (arith, small.first)),
      minus_is q.hidden (omega (arith, small.hidden)),
    )
    (record {
      constant = c.requires.range;
      first = omega (arith, ints, small.third);
      second = omega (arith, ints, small.second);
      third = omega (arith, ints, small.first);
      outer = omega (arith, ints, small.outer);
      hidden = omega (arith, ints, small.hidden);
      arcs = omega (arith, small.arcs);
    })
