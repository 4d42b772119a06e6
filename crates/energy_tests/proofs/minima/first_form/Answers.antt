use Rattle.std.proofs.Common.{pos, arith}
use Rattle.compile_cut.proofs.TermLemmas.{bounded-weaker, constant_bounded, constant_nodes}
use Rattle.energy_tests.proofs.minima.first_form.Goals as goal

pub add_one-requires-clause-bounded : goal.add_one-requires-clause-bounded
add_one-requires-clause-bounded c = bounded-weaker 0 8388608 c.in_ok-form.form (omega arith) (constant_bounded (pos 0) 2 c.in_ok-form.form (omega arith) c.in_ok-form.ensures)

pub add_one-requires-2-clause-bounded : goal.add_one-requires-2-clause-bounded
add_one-requires-2-clause-bounded c =
    let none = constant_bounded (pos 0) 2 c.in_ok-form.form (omega arith) c.in_ok-form.ensures in
    bounded-weaker 1 8388608 c.add_one.new.self (omega arith) (c.add_one.ensures.bounded 0 none)

pub add_pair-requires-clause-bounded : goal.add_pair-requires-clause-bounded
add_pair-requires-clause-bounded c =
    let none = constant_bounded (pos 0) 2 c.in_ok-form.form (omega arith) c.in_ok-form.ensures in
    bounded-weaker 2 8388608 c.add_one-2.new.self (omega arith) (c.add_one-2.ensures.bounded 1 (c.add_one.ensures.bounded 0 none))

pub add_one-requires-clause-first : goal.add_one-requires-clause-first
add_one-requires-clause-first c = omega (arith, constant_nodes (pos 0) 2 c.in_ok-form.form c.in_ok-form.ensures)

pub add_one-requires-2-clause-first : goal.add_one-requires-2-clause-first
add_one-requires-2-clause-first c = omega (arith, c.add_one.ensures.len, constant_nodes (pos 0) 2 c.in_ok-form.form c.in_ok-form.ensures)

pub add_pair-requires-clause-first : goal.add_pair-requires-clause-first
add_pair-requires-clause-first c = omega (arith, c.add_one-2.ensures.len, c.add_one.ensures.len, constant_nodes (pos 0) 2 c.in_ok-form.form c.in_ok-form.ensures)

pub add_pair-requires-clause-second : goal.add_pair-requires-clause-second
add_pair-requires-clause-second c = omega (arith, c.add_one-2.ensures.len, c.add_one.ensures.len, constant_nodes (pos 0) 2 c.in_ok-form.form c.in_ok-form.ensures)

pub returns-clause-bounded : goal.returns-clause-bounded
returns-clause-bounded c =
    let none = constant_bounded (pos 0) 2 c.in_ok-form.form (omega arith) c.in_ok-form.ensures in
    bounded-weaker 3 8388608 c.add_pair.new.self (omega arith)
    (c.in_ok-add_pair.ensures.bounded 2 (c.add_one-2.ensures.bounded 1 (c.add_one.ensures.bounded 0 none)))

pub returns-clause-nodes : goal.returns-clause-nodes
returns-clause-nodes c = omega (arith, c.add_pair.ensures.len, c.add_one-2.ensures.len, c.add_one.ensures.len, constant_nodes (pos 0) 2 c.in_ok-form.form c.in_ok-form.ensures)
