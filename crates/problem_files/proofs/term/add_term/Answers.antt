use Rattle.std.proofs.Common.{codes, ◌≡◌, Some}
use Rattle.toml.specs.View.{view}
use Rattle.problem_files.specs.Problem.{integers_at}
use Rattle.problem_files.proofs.TermLemmas.{found, long_values}
use Rattle.problem_files.proofs.term.add_term.Goals as goal

pub returns-clause-refused : goal.returns-clause-refused
returns-clause-refused c =
    let on : integers_at (codes "on") (view c.args.item.now) ≡ Some c.in-Some.on.items = found 3 _ _ c.in-Some.ensures in
    let values : integers_at (codes "values") (view c.args.item.now) ≡ Some c.in-Some-integers_at.values.items = found 8 _ _ c.in-Some-integers_at.ensures in
    rw (on, values, ← c.deref.ensures.0, ← c.deref-2.ensures.0) c.add_listed.ensures.refused

pub returns-in_default-integers_at-clause-refused : goal.returns-in_default-integers_at-clause-refused
returns-in_default-integers_at-clause-refused c = λ memory.
    let on : integers_at (codes "on") (view c.args.item.now) ≡ Some c.in-Some.on.items = found 3 _ _ c.in-Some.ensures in
    rw on (long_values c.args.energy.now.variables c.args.place c.in-Some.on.items (integers_at (codes "values") (view c.args.item.now)) c.in_default-integers_at.ensures)
