use Rattle.std.proofs.Common.{arith}
use Rattle.toml.specs.View.{table_view, view}
use Rattle.problem_files.proofs.EnergyItemLemmas.{terms_found, too_many_terms}
use Rattle.problem_files.proofs.energy.add_terms.Goals as goal

pub returns-then-len-gt-TERM_LIMIT-clause-refused :
    goal.returns-then-len-gt-TERM_LIMIT-clause-refused
returns-then-len-gt-TERM_LIMIT-clause-refused c =
    λ memory. too_many_terms c.args.energy.now.variables (table_view c.args.table.now) (view c.in-Some.value.now)
    c.in-Some-as_array.items.now.items (rw c.name.ensures.text at c.in-Some.ensures) c.in-Some-as_array.ensures (omega arith)

pub returns-clause-ok : goal.returns-clause-ok
returns-clause-ok c =
    rw (terms_found c.args.energy.now.variables (table_view c.args.table.now) (view c.in-Some.value.now)
    c.in-Some-as_array.items.now.items (rw c.name.ensures.text at c.in-Some.ensures) c.in-Some-as_array.ensures (omega arith)) c.add_items.ensures.ok

pub returns-clause-refused : goal.returns-clause-refused
returns-clause-refused c =
    rw (terms_found c.args.energy.now.variables (table_view c.args.table.now) (view c.in-Some.value.now)
    c.in-Some-as_array.items.now.items (rw c.name.ensures.text at c.in-Some.ensures) c.in-Some-as_array.ensures (omega arith)) c.add_items.ensures.refused
