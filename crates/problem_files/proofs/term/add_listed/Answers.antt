use Rattle.std.proofs.Common.{◌≡◌, pos, length, arith, rules, sym}
use Rattle.problem_files.proofs.TermLemmas.{four_named, two_listed, eight_named, three_listed}
use Rattle.problem_files.proofs.term.add_listed.Goals as goal

pub returns-in-Ok-try_from-clause-ok : goal.returns-in-Ok-try_from-clause-ok
returns-in-Ok-try_from-clause-ok c =
    let two : length c.args.on.now ≡ 2 = omega (arith, c.in-len2.len_below, c.in-len2.len_at_least) in
    let chunk = c.in-Ok-try_from.ensures.1 in
    let is = four_named c.args.energy.now.variables c.args.place c.args.on.now _ _ c.in-Ok-try_from.table
    (search (rules, two_listed c.args.on.now (pos 0) two)) (rw chunk.same chunk.long) in
    rw (sym chunk.same, is) c.add_two.ensures.ok

pub returns-in-Ok-try_from-clause-refused : goal.returns-in-Ok-try_from-clause-refused
returns-in-Ok-try_from-clause-refused c =
    let two : length c.args.on.now ≡ 2 = omega (arith, c.in-len2.len_below, c.in-len2.len_at_least) in
    let chunk = c.in-Ok-try_from.ensures.1 in
    let is = four_named c.args.energy.now.variables c.args.place c.args.on.now _ _ c.in-Ok-try_from.table
    (search (rules, two_listed c.args.on.now (pos 0) two)) (rw chunk.same chunk.long) in
    rw (sym chunk.same, is) c.add_two.ensures.refused

pub returns-in-Ok-try_from-2-clause-ok : goal.returns-in-Ok-try_from-2-clause-ok
returns-in-Ok-try_from-2-clause-ok c =
    let three : length c.args.on.now ≡ 3 = omega (arith, c.in-len3.len_below, c.in-len3.len_at_least) in
    let chunk = c.in-Ok-try_from-2.ensures.1 in
    let is = eight_named c.args.energy.now.variables c.args.place c.args.on.now _ _ _ c.in-Ok-try_from-2.table
    (search (rules, three_listed c.args.on.now (pos 0) three)) (rw chunk.same chunk.long) in
    rw (sym chunk.same, is) c.add_three.ensures.ok

pub returns-in-Ok-try_from-2-clause-refused : goal.returns-in-Ok-try_from-2-clause-refused
returns-in-Ok-try_from-2-clause-refused c =
    let three : length c.args.on.now ≡ 3 = omega (arith, c.in-len3.len_below, c.in-len3.len_at_least) in
    let chunk = c.in-Ok-try_from-2.ensures.1 in
    let is = eight_named c.args.energy.now.variables c.args.place c.args.on.now _ _ _ c.in-Ok-try_from-2.table
    (search (rules, three_listed c.args.on.now (pos 0) three)) (rw chunk.same chunk.long) in
    rw (sym chunk.same, is) c.add_three.ensures.refused
