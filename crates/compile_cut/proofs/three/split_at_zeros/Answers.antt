use Rattle.std.proofs.Common.{arith, unsigned_abs, ◌≤◌, pos, ◌∙◌}
use Rattle.pseudo_bool.specs.Energies.{entry}
use Rattle.compile_cut.proofs.PartLemmas.{passed_is}
use Rattle.compile_cut.proofs.three.split_at_zeros.Goals as goal

pub returns-clause-value : goal.returns-clause-value
returns-clause-value c =
    let zero : unsigned_abs (entry c.args.table.now 0) ≤ 1000000000 = c.requires.table.values 0 (pos 0) (omega (arith, c.told-table)) in
    let one = passed_is c.balance.result (omega (arith, c.balance.ensures.small)) in
    let other = passed_is c.difference-3.result (omega (arith, c.difference-3.ensures.small)) in
    let both = passed_is c.sum.result (omega (arith, c.sum.ensures.small)) in
    record {
      constant = passed_is (entry c.args.table.now 0) (omega (arith, zero));
      first = passed_is c.difference.result (omega (arith, c.difference.ensures.small)) ∙ c.difference.ensures.value;
      second = passed_is c.difference-2.result (omega (arith, c.difference-2.ensures.small)) ∙ c.difference-2.ensures.value;
      third = cc (one, other, both, c.sum.ensures.value, c.balance.ensures.value, c.difference-3.ensures.value);
      arcs = c.arcs_at_zeros.ensures;
      hidden = passed_is c.args.hidden (omega (arith, c.requires.hidden));
    }

pub sum-requires-clause-a : goal.sum-requires-clause-a
sum-requires-clause-a c = rw (passed_is c.balance.result (omega (arith, c.balance.ensures.small))) c.balance.ensures.small

pub sum-requires-clause-b : goal.sum-requires-clause-b
sum-requires-clause-b c =
    rw (passed_is c.difference-3.result (omega (arith, c.difference-3.ensures.small))) (omega (arith, c.difference-3.ensures.small))

pub returns-clause-small : goal.returns-clause-small
returns-clause-small c =
    let zero : unsigned_abs (entry c.args.table.now 0) ≤ 1000000000 = c.requires.table.values 0 (pos 0) (omega (arith, c.told-table)) in
    let first = c.difference.ensures.small in
    let second = c.difference-2.ensures.small in
    let third = c.sum.ensures.small in
    rw (passed_is (entry c.args.table.now 0) (omega (arith, zero)), passed_is c.difference.result (omega arith), passed_is c.difference-2.result (omega arith), passed_is c.sum.result (omega arith), passed_is c.args.hidden (omega (arith, c.requires.hidden)))
    (record {
      constant = zero;
      first = omega (arith, first);
      second = omega (arith, second);
      third = omega (arith, third);
      outer = omega (arith, first, third);
      hidden = c.requires.hidden;
      arcs = c.arcs_at_zeros.ensures.small;
    })
